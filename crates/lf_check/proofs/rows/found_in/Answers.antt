use Rattle.std.proofs.Common.{◌≡◌, ◌+◌, ◌*◌, ◌/◌, length, subst, sym, ap, ◌∙◌, arith}
use Rattle.std.specs.Prelude.{slice_get, IfSome}
use Rattle.lf_sim.specs.Settings.{world_of}
use Rattle.lf_check.specs.declared.found.Found.TheVariants as found
use Rattle.lf_check.specs.Rows.{IsFound, IsFoundInPart}
use Rattle.lf_check.proofs.AllLemmas.{long_range, part_read}
use Rattle.lf_check.proofs.FoundLemmas.{found-all, found-more, found-stop}
use Rattle.lf_check.proofs.rows.found_in.Goals as goal

pub returns-in-Fails : goal.returns-in-Fails
returns-in-Fails g c =
    let j = c.args.judged.now in
    let s = j.setting.now in
    let tree = c.args.places.now.tree.now in
    let sets = c.args.places.now.sets.items in
    found-all (world_of s) s.spec j.formula.now j.last tree sets 256 c.in-Fails.at c.in-Fails.reason
    (subst (IsFound (world_of s) s.spec j.formula.now j.last tree sets 0 256) c.in-Fails.is c.in_ok-at.ensures)

pub loop-i-init : goal.loop-i-init
loop-i-init g c =
    let j = c.args.judged.now in
    let s = j.setting.now in
    let tree = c.args.places.now.tree.now in
    let sets = c.args.places.now.sets.items in
    subst (IsFound (world_of s) s.spec j.formula.now j.last tree sets 0 256) c.in-Passes.is c.in_ok-at.ensures

pub in_part-requires : goal.in_part-requires
in_part-requires g c =
    let long = long_range _ 0 (c.len-more.result / 256) c.in_ok-found.found.items c.in_ok-found.ensures in
    omega (arith, long, c.loop-i-test.true, ap length c.as_slice.ensures.value)

pub settled-requires-clause-found : goal.settled-requires-clause-found
settled-requires-clause-found g c =
    let j = c.args.judged.now in
    let s = j.setting.now in
    let tree = c.args.places.now.tree.now in
    let sets = c.args.places.now.sets.items in
    let k = c.loop-i.i in
    part_read (λ i o. IfSome o (IsFoundInPart (world_of s) s.spec j.formula.now j.last tree sets (i + 1))) (c.len-more.result / 256)
    c.in_ok-found.found.items c.in_ok-found.ensures k c.in_part.result c.in_ok-one.one
    (ap (λ xs. slice_get xs k) (sym c.as_slice.ensures.value) ∙ c.in_part.ensures) c.in_ok-one.was

pub returns-in-Fails-2 : goal.returns-in-Fails-2
returns-in-Fails-2 g c =
    let j = c.args.judged.now in
    let s = j.setting.now in
    let tree = c.args.places.now.tree.now in
    let sets = c.args.places.now.sets.items in
    let k = c.loop-i.i in
    let end = (k + 1) * 256 in
    found-all (world_of s) s.spec j.formula.now j.last tree sets (end + 256) c.in-Fails-2.at c.in-Fails-2.reason
    (found-stop (world_of s) s.spec j.formula.now j.last tree sets 0 end (end + 256) (omega arith) (omega arith) (end + 256) c.in-Fails-2.at
    c.loop-i.first c.in-Fails-2.reason (omega arith) c.loop-i.invariant
    (subst (IsFoundInPart (world_of s) s.spec j.formula.now j.last tree sets (k + 1)) c.in-Fails-2.is c.in_ok-at-2.ensures))

pub loop-i-preserved : goal.loop-i-preserved
loop-i-preserved g c =
    let j = c.args.judged.now in
    let s = j.setting.now in
    let tree = c.args.places.now.tree.now in
    let sets = c.args.places.now.sets.items in
    let k = c.loop-i.i in
    let end = (k + 1) * 256 in
    let next : end + 256 ≡ (k + 1 + 1) * 256 = omega arith in
    subst (λ to. IsFound (world_of s) s.spec j.formula.now j.last tree sets 0 to (found.Passes c.lower-first.result)) next
    (found-more (world_of s) s.spec j.formula.now j.last tree sets 0 end (end + 256) (omega arith) (omega arith) c.loop-i.first
    c.in-Passes-2.other c.lower-first.result c.loop-i.invariant
    (subst (IsFoundInPart (world_of s) s.spec j.formula.now j.last tree sets (k + 1)) c.in-Passes-2.is c.in_ok-at-2.ensures) c.lower-first.ensures)
