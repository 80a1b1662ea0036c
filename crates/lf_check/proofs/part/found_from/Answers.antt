use Rattle.std.proofs.Common.{◌+◌, length, refl, sym, arith}
use Rattle.lf_sim.specs.Settings.{world_of}
use Rattle.lf_check.proofs.FoundLemmas.{found-end, same_end}
use Rattle.lf_check.proofs.NodeLemmas.{ok_then}
use Rattle.lf_check.proofs.part.found_from.Goals as goal

pub returns : goal.returns
returns g c =
    let j = c.args.judged.now in
    let s = j.setting.now in
    let places = c.args.places.now in
    let to = c.end_of-to.result in
    ok_then c.found_within.result _ _ c.found_within.ensures (λ found h.
    found-end (world_of s) s.spec j.formula.now j.last places.tree.now places.sets.items c.args.from to (c.args.from + 256)
    (length places.rows.items) found
    (same_end to to (c.args.from + 256) c.len.result (length places.rows.items) c.end_of-to.ensures.whole c.end_of-to.ensures.near refl
    (omega (arith, c.len.ensures, places.rows.ok.0))) (sym c.requires.places.count) c.end_of-to.ensures.near h)
