use Rattle.std.proofs.Common.{◌<◌, map, length, ap, ◌∙◌, arith}
use Rattle.std.proofs.lemmas.Option.{slice_get-get_or}
use Rattle.std.proofs.lemmas.Result.{on_ok_weaker}
use Rattle.std.specs.Prelude.{slice_index_or}
use Rattle.lf_tree.specs.Rows.{seen}
use Rattle.lf_certificate.specs.Places.{Place}
use Rattle.lf_check.proofs.RowLemmas.{kid_excluded, root_place}
use Rattle.lf_check.proofs.excluded.Excluded.go_to.Goals as goal

pub returns-in-Some-clause-here : goal.returns-in-Some-clause-here
returns-in-Some-clause-here c =
    let places = c.args.places.now in
    let tree = places.tree.now in
    let rows = c.as_slice-rows.result.now in
    let same = c.as_slice-rows.ensures.value in
    let whole = ap (map seen) same ∙ c.requires.places.rows in
    let within : c.args.at < length rows = omega (arith, c.requires.at, ap length same) in
    let at = c.args.at in
    let row = slice_index_or rows at c.index-rows-at.result in
    let here = slice_get-get_or rows at c.index-rows-at.result within in
    on_ok_weaker c.go_to_kid.result
    (kid_excluded tree rows at c.above.result whole within c.above.ensures.parent c.in-Some.branch c.in-Some.is row here
    c.go_to_kid.new.self.faults.items) c.go_to_kid.ensures.here

pub returns-in-None-clause-here : goal.returns-in-None-clause-here
returns-in-None-clause-here c way p stands =
    let tree = c.args.places.now.tree.now in
    let rows = c.args.places.now.rows.items in
    let root = root_place tree rows c.args.at c.above.result c.requires.places.rows (omega (arith, c.requires.at)) c.above.ensures.parent
    c.in-None.is way p stands in
    c.clear.ensures.items ∙ ap (λ (q : Place). q.excluded) root
