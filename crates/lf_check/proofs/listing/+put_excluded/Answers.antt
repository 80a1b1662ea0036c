use Rattle.std.proofs.Common.{◌<◌, map, length, ◌∙◌, ◌++◌, ap, sym, arith}
use Rattle.std.proofs.lemmas.List.{append-nil}
use Rattle.std.proofs.lemmas.Option.{slice_get-get_or}
use Rattle.lf_certificate.specs.Places.{Place}
use Rattle.std.specs.Prelude.{slice_index_or}
use Rattle.lf_tree.specs.Rows.{seen}
use Rattle.lf_check.proofs.RowLemmas.{more_excluded, none_is, root_place}
use Rattle.lf_check.proofs.listing.+put_excluded.Goals as goal

pub returns-in_ok-extend_from_slice : goal.returns-in_ok-extend_from_slice
returns-in_ok-extend_from_slice t c =
    let tree = c.args.places.now.tree.now in
    let rows = c.as_slice-rows.result.now in
    let same = c.as_slice-rows.ensures.value in
    let whole = ap (map seen) same ∙ c.requires.places.rows in
    let within : c.args.at < length rows = omega (arith, c.requires.at, ap length same) in
    let at = c.args.at in
    let above = c.in-Some.above in
    let row = slice_index_or rows at c.index-rows-at.result in
    let branch = slice_index_or rows above c.index-rows-above.result in
    let here = slice_get-get_or rows at c.index-rows-at.result within in
    let there = slice_get-get_or rows above c.index-rows-above.result (omega (arith, c.in-Some.ensures.before, within)) in
    more_excluded tree rows at c.above.result whole within c.above.ensures.parent above c.in-Some.is row
    branch here there c.args.excluded.now.items c.put_excluded.new.excluded.items c.extend_from_slice.new.self.items
    c.in_ok-put_excluded.ensures (c.in_ok-extend_from_slice.ensures.items ∙ ap (λ xs. c.put_excluded.new.excluded.items ++ xs) c.edges_before.ensures)

pub returns-in_default : goal.returns-in_default
returns-in_default t c way p stands =
    let tree = c.args.places.now.tree.now in
    let rows = c.args.places.now.rows.items in
    let root = root_place tree rows c.args.at c.above.result c.requires.places.rows (omega (arith, c.requires.at)) c.above.ensures.parent
    (none_is c.above.result c.in_default.not-Some) way p stands in
    sym (append-nil c.args.excluded.now.items) ∙ ap (λ (q : Place). c.args.excluded.now.items ++ q.excluded) root
