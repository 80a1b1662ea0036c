use Rattle.std.proofs.Common.{ap}
use Rattle.std.proofs.lemmas.Option.{slice_get-get_or}
use Rattle.std.specs.Prelude.{slice_index_or}
use Rattle.lf_tree.specs.Rows.{Seen, seen}
use Rattle.lf_check.proofs.RowLemmas.{read_back, read_row, parent_before}
use Rattle.lf_check.proofs.listing.above.Goals as goal

pub returns-clause-parent : goal.returns-clause-parent
returns-clause-parent c r is =
    let rows = c.args.rows.now in
    let row = slice_index_or rows c.args.at c.index-rows-at.result in
    let here = slice_get-get_or rows c.args.at c.index-rows-at.result c.requires.at in
    ap (λ (x : Seen). x.parent) (read_back c.args.tree.now rows c.args.at row r c.requires.rows here is)

pub returns-clause-before : goal.returns-clause-before
returns-clause-before c =
    let rows = c.args.rows.now in
    let row = slice_index_or rows c.args.at c.index-rows-at.result in
    let here = slice_get-get_or rows c.args.at c.index-rows-at.result c.requires.at in
    parent_before c.args.tree.now c.args.at (seen row) (read_row c.args.tree.now rows c.args.at row c.requires.rows here)
