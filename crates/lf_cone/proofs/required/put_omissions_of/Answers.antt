use Rattle.std.proofs.Common.{◌<◌, ◌+◌, refl, sym, subst, arith}
use Rattle.std.proofs.lemmas.Bool.{both_ways}
use Rattle.lf_faults.specs.declared.fault.Parts.TheVariants.{Omit}
use Rattle.lf_sim.specs.Settings.{world_of}
use Rattle.lf_cone.specs.Places.{sender_row, place_at, AreOpen}
use Rattle.lf_cone.proofs.RequiredLemmas.{less_than_same, moved, is-fault, put_one, skip_omission, end_receivers}
use Rattle.lf_cone.proofs.required.put_omissions_of.Goals as goal
use Rattle.lf_cone.proofs.required.put_omissions_of.Goals.{then-tries_omission+in_ok-push, else-tries_omission}

pub open_slots-slots-requires-clause-last : goal.open_slots-slots-requires-clause-last
open_slots-slots-requires-clause-last g c = omega (arith, c.requires.last, c.nodes-nodes.ensures.limits.last_omission)

pub tries_omission-requires-clause-slots : goal.tries_omission-requires-clause-slots
tries_omission-requires-clause-slots g c =
    subst (λ F. AreOpen (world_of c.args.setting.now) F c.args.view.now.marks.rows c.args.from c.args.step c.open_slots-slots.result)
    (sym c.requires.set) c.open_slots-slots.ensures

pub omission-requires : goal.omission-requires
omission-requires g c =
    let s = c.args.setting.now in
    let v = c.args.view.now in
    is-fault (world_of s) v.effects.set s.spec v.reach v.marks.faults.now c.nodes-nodes.ensures.limits (Omit c.args.from c.loop-to.to c.args.step)
    (c.tries_omission.ensures.0 c.if-tries_omission.true)

pub loop-to-preserved : goal.loop-to-preserved
loop-to-preserved g c =
    let s = c.args.setting.now in
    let v = c.args.view.now in
    let t = c.args.step in
    let n = c.args.from in
    let m = c.loop-to.to in
    let limits = c.nodes-nodes.ensures.limits in
    let sender : n < 8 = omega (arith, c.requires.from, limits.nodes.1) in
    let receiver : m < 8 = omega (arith, c.loop-to-test.true, c.nodes-nodes.ensures.value, limits.nodes.1) in
    elim c.if-tries_omission.branch [
      | then-tries_omission+in_ok-push b ↦
          rw b.found-is (put_one (world_of s) v.effects.set s.spec v.reach v.marks.faults.now limits c.loop-to.found.items _ b.omission.result (Omit n m t)
          (place_at (sender_row n t) m) (place_at (sender_row n t) (m + 1)) b.in_ok-push.ensures.items b.omission.ensures (omega arith) (omega arith)
          c.loop-to.invariant (c.tries_omission.ensures.0 b.if-tries_omission.true))
      | else-tries_omission b ↦
          rw b.found-is (moved (world_of s) v.effects.set s.spec v.reach v.marks.faults.now limits c.loop-to.found.items (place_at (sender_row n t) m + 1)
          (place_at (sender_row n t) (m + 1)) (omega arith)
          (skip_omission (world_of s) v.effects.set s.spec v.reach v.marks.faults.now limits c.loop-to.found.items n m t c.requires.first sender receiver
          c.loop-to.invariant (λ p. both_ways c.tries_omission.result b.if-tries_omission.false (c.tries_omission.ensures.1 p))))
    ]

pub returns : goal.returns
returns g c =
    let s = c.args.setting.now in
    let v = c.args.view.now in
    let t = c.args.step in
    let limits = c.nodes-nodes.ensures.limits in
    end_receivers (world_of s) v.effects.set s.spec v.reach v.marks.faults.now limits c.loop-to.found.items c.args.from c.loop-to.to t c.requires.first
    (omega (arith, c.requires.from, limits.nodes.1)) (omega (arith, c.loop-to-test.false, c.nodes-nodes.ensures.value))
    (omega (arith, c.loop-to.auto.to-end, c.nodes-nodes.ensures.value, limits.nodes.1)) c.loop-to.invariant

pub open_slots-slots-requires-clause-run : goal.open_slots-slots-requires-clause-run
open_slots-slots-requires-clause-run g c = c.requires.run

pub open_slots-slots-requires-clause-from : goal.open_slots-slots-requires-clause-from
open_slots-slots-requires-clause-from g c = c.requires.from

pub open_slots-slots-requires-clause-first : goal.open_slots-slots-requires-clause-first
open_slots-slots-requires-clause-first g c = c.requires.first

pub tries_omission-requires-clause-marks : goal.tries_omission-requires-clause-marks
tries_omission-requires-clause-marks g c = c.requires.marks

pub tries_omission-requires-clause-allowed : goal.tries_omission-requires-clause-allowed
tries_omission-requires-clause-allowed g c = c.requires.allowed

pub tries_omission-requires-clause-few : goal.tries_omission-requires-clause-few
tries_omission-requires-clause-few g c = c.requires.few

pub tries_omission-requires-clause-ends : goal.tries_omission-requires-clause-ends
tries_omission-requires-clause-ends g c = c.requires.ends

pub tries_omission-requires-clause-from : goal.tries_omission-requires-clause-from
tries_omission-requires-clause-from g c = c.requires.from

pub tries_omission-requires-clause-first : goal.tries_omission-requires-clause-first
tries_omission-requires-clause-first g c = c.requires.first

pub tries_omission-requires-clause-last : goal.tries_omission-requires-clause-last
tries_omission-requires-clause-last g c = c.requires.last

pub tries_omission-requires-clause-up : goal.tries_omission-requires-clause-up
tries_omission-requires-clause-up g c = c.requires.up

pub tries_omission-requires-clause-to : goal.tries_omission-requires-clause-to
tries_omission-requires-clause-to g c = less_than_same _ _ _ _ c.loop-to-test.true refl c.nodes-nodes.ensures.value
