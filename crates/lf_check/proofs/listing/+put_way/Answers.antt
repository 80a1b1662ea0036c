use Rattle.std.proofs.Common.{◌<◌, map, length, ◌∙◌, ◌++◌, ap, sym, arith}
use Rattle.std.proofs.lemmas.List.{append-nil}
use Rattle.std.proofs.lemmas.Option.{slice_get-get_or}
use Rattle.std.specs.Prelude.{slice_index_or}
use Rattle.lf_tree.specs.Rows.{seen}
use Rattle.lf_check.proofs.RowLemmas.{more_way, none_is, root_way}
use Rattle.lf_check.proofs.listing.+put_way.Goals as goal

pub returns-in_ok-push : goal.returns-in_ok-push
returns-in_ok-push t c =
    let tree = c.args.places.now.tree.now in
    let rows = c.as_slice-rows.result.now in
    let same = c.as_slice-rows.ensures.value in
    let whole = ap (map seen) same ∙ c.requires.places.rows in
    let within : c.args.at < length rows = omega (arith, c.requires.at, ap length same) in
    let at = c.args.at in
    let row = slice_index_or rows at c.index-rows-at.result in
    let here = slice_get-get_or rows at c.index-rows-at.result within in
    more_way tree rows at c.above.result whole within c.above.ensures.parent c.in-Some.above c.in-Some.is
    row here c.args.way.now.items c.put_way.new.way.items c.push.new.self.items c.in_ok-put_way.ensures c.in_ok-push.ensures.items

pub returns-in_default : goal.returns-in_default
returns-in_default t c whole is =
    let tree = c.args.places.now.tree.now in
    let rows = c.args.places.now.rows.items in
    let root = root_way tree rows c.args.at c.above.result c.requires.places.rows (omega (arith, c.requires.at)) c.above.ensures.parent
    (none_is c.above.result c.in_default.not-Some) whole is in
    sym (append-nil c.args.way.now.items) ∙ ap (λ xs. c.args.way.now.items ++ xs) root
