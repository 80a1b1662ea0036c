use Rattle.std.proofs.Common.{◌≡◌, ◌<◌, arith, subst, sym, length}
use Rattle.std.proofs.lemmas.Bool.{both_ways}
use Rattle.lf_sim.specs.Settings.{world_of}
use Rattle.lf_cone.specs.Cones.{CanHear}
use Rattle.lf_cone.specs.Sweeps.{IsRaised, IsDone}
use Rattle.lf_cone.proofs.Sweeping.{raised-more, raised-pass, raised-enough, raised-same, raised-one}
use Rattle.lf_cone.proofs.hearing.heard.Goals as goal
use Rattle.lf_cone.proofs.hearing.heard.Goals.{then-at-step+then-is_done, else-at-step}
use Rattle.lf_cone.proofs.hearing.heard.Goals.{else-at-step-via-then-at-step+else-is_done, else-at-step-via-else-at-step}

pub loop-from-preserved : goal.loop-from-preserved
loop-from-preserved g c =
    let w = world_of c.args.setting.now in
    let F = c.args.effects.now.set in
    let by = IsDone (CanHear w F) c.args.reach c.args.step in
    let n = c.loop-from.from in
    let r = c.loop-from.reach in
    let inside : n < length r = omega (arith, c.loop-from-test.true, c.loop-from.invariant.count, c.requires.form.count, c.requires.nodes) in
    elim c.if-at-step.branch [
      | then-at-step+then-is_done b ↦
          let done = b.is_done.ensures.0 b.if-is_done.true in
          rw b.reach-is (raised-more by n c.args.reach r b.raised-reach.result c.loop-from.invariant
          (subst (IsRaised (by n) r) (sym b.raised-reach.ensures)
          (raised-same (λ k t. (k ≡ n) × (t ≡ c.args.step)) (by n) r _
          (λ k t h. (h.0, h.1))
          (λ k t h. (h.0, h.1, done.0, done.1.0, done.1.1, done.1.2))
          (raised-one r n c.args.step inside))))
      | else-at-step b ↦ elim b.else-at-step.branch [
        | else-at-step-via-then-at-step+else-is_done d ↦
            rw b.reach-is (raised-pass by n c.args.reach r c.loop-from.invariant
            (λ k t h. both_ways d.is_done.result d.if-is_done.false (d.is_done.ensures.1 (h.2, (h.3, h.4, h.5)))))
        | else-at-step-via-else-at-step d ↦
            rw b.reach-is (raised-enough by n c.args.reach r c.loop-from.invariant (λ k t h.
            rw h.0 (omega (arith, h.1, d.if-at-step.false, c.at.ensures.value, c.loop-from.invariant.keeps n))))
      ]
    ]
