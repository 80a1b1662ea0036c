use Rattle.std.proofs.Common.{◌<◌, ◌≤◌, refl, subst, sym, ◌∙◌, arith}
use Rattle.lf_sim.specs.Settings.{world_of}
use Rattle.lf_cone.proofs.RequiredLemmas.{less_than_same, skip_sender, end_senders, skip_omissions}
use Rattle.lf_cone.proofs.required.put_omissions.Goals as goal
use Rattle.lf_cone.proofs.required.put_omissions.Goals.{then-goes+in_ok-put_omissions_of, else-goes}

pub returns-then-step-last_omission : goal.returns-then-step-last_omission
returns-then-step-last_omission g c =
    let s = c.args.setting.now in
    let v = c.args.view.now in
    let t = c.args.step in
    skip_omissions (world_of s) v.effects.set s.spec v.reach v.marks.faults.now c.last_omission.ensures.limits c.args.found.now.items t c.requires.first
    (omega (arith, c.if-step-last_omission.true, c.last_omission.ensures.value)) c.requires.so_far

pub loop-from-preserved : goal.loop-from-preserved
loop-from-preserved g c =
    let s = c.args.setting.now in
    let v = c.args.view.now in
    let t = c.args.step in
    let n = c.loop-from.from in
    let limits = c.last_omission.ensures.limits in
    let node : n < 8 = omega (arith, c.loop-from-test.true, c.nodes-from-end.ensures.value, limits.nodes.1) in
    elim c.if-goes.branch [
      | then-goes+in_ok-put_omissions_of b ↦ rw b.found-is b.in_ok-put_omissions_of.ensures
      | else-goes b ↦
          rw b.found-is (skip_sender (world_of s) v.effects.set s.spec v.reach v.marks.faults.now limits c.loop-from.found.items n t c.requires.first node
          c.loop-from.invariant (sym c.goes.ensures.value ∙ b.if-goes.false))
    ]

pub returns : goal.returns
returns g c =
    let s = c.args.setting.now in
    let v = c.args.view.now in
    let t = c.args.step in
    let limits = c.last_omission.ensures.limits in
    end_senders (world_of s) v.effects.set s.spec v.reach v.marks.faults.now limits c.loop-from.found.items c.loop-from.from t c.requires.first (omega
    (arith, c.loop-from-test.false, c.nodes-from-end.ensures.value))
    (omega (arith, c.loop-from.auto.from-end, c.nodes-from-end.ensures.value, limits.nodes.1)) c.loop-from.invariant

pub put_omissions_of-requires-clause-run : goal.put_omissions_of-requires-clause-run
put_omissions_of-requires-clause-run g c = c.requires.run

pub put_omissions_of-requires-clause-set : goal.put_omissions_of-requires-clause-set
put_omissions_of-requires-clause-set g c = c.requires.set

pub put_omissions_of-requires-clause-marks : goal.put_omissions_of-requires-clause-marks
put_omissions_of-requires-clause-marks g c = c.requires.marks

pub put_omissions_of-requires-clause-allowed : goal.put_omissions_of-requires-clause-allowed
put_omissions_of-requires-clause-allowed g c = c.requires.allowed

pub put_omissions_of-requires-clause-few : goal.put_omissions_of-requires-clause-few
put_omissions_of-requires-clause-few g c = c.requires.few

pub put_omissions_of-requires-clause-ends : goal.put_omissions_of-requires-clause-ends
put_omissions_of-requires-clause-ends g c = c.requires.ends

pub put_omissions_of-requires-clause-first : goal.put_omissions_of-requires-clause-first
put_omissions_of-requires-clause-first g c = c.requires.first

pub put_omissions_of-requires-clause-from : goal.put_omissions_of-requires-clause-from
put_omissions_of-requires-clause-from g c = less_than_same _ _ _ _ c.loop-from-test.true refl c.nodes-from-end.ensures.value

pub put_omissions_of-requires-clause-last : goal.put_omissions_of-requires-clause-last
put_omissions_of-requires-clause-last g c = subst (λ h. c.args.step ≤ h) c.last_omission.ensures.value c.if-step-last_omission.false

pub put_omissions_of-requires-clause-up : goal.put_omissions_of-requires-clause-up
put_omissions_of-requires-clause-up g c = sym c.goes.ensures.value ∙ c.if-goes.true

pub put_omissions_of-requires-clause-so_far : goal.put_omissions_of-requires-clause-so_far
put_omissions_of-requires-clause-so_far g c = c.loop-from.invariant

pub goes-requires-clause-node : goal.goes-requires-clause-node
goes-requires-clause-node g c = less_than_same _ _ _ _ c.loop-from-test.true refl c.nodes-from-end.ensures.value

pub goes-requires-clause-first : goal.goes-requires-clause-first
goes-requires-clause-first g c = c.requires.first
