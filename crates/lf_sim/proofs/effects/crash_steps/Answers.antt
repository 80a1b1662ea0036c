use Rattle.std.proofs.Common.{length, sym, ap, subst, ◌∙◌}
use Rattle.std.proofs.Math.ListN.{length-set}
use Rattle.lf_faults.specs.Faults.{IsFault}
use Rattle.lf_sim.proofs.EffectsLemmas.{crashes_pass, crashes_kept, crashes_more, crashes-not}
use Rattle.lf_sim.proofs.effects.crash_steps.Goals as goal
use Rattle.lf_sim.proofs.effects.crash_steps.Goals.{in-Crash+then-step-steps, in-Crash+else-step-steps, in_default}

pub loop-fault-preserved : goal.loop-fault-preserved
loop-fault-preserved c =
    let xs = c.items-fault-items.result.now in
    let i = c.loop-fault.fault-index in
    let x = c.fault-item.result in
    let inv = c.loop-fault.invariant in
    let steps = c.loop-fault.steps in
    elim c.match-parts.branch [
      | in-Crash+then-step-steps b ↦
          record {
            long = ap length b.steps-is ∙ length-set steps b.in-Crash.node b.in-Crash.step ∙ inv.long;
            filled = rw b.steps-is
                (crashes_more xs i x c.fault-item.is c.loop-fault-test.true steps b.in-Crash.node b.in-Crash.step (sym b.in-Crash.ensures.value)
                (subst IsFault (sym b.in-Crash.ensures.value) c.parts.ensures.in_range).0 inv.long b.if-step-steps.true inv.filled);
          }
      | in-Crash+else-step-steps b ↦
          record {
            long = ap length b.steps-is ∙ inv.long;
            filled = rw b.steps-is
                (crashes_kept xs i x c.fault-item.is c.loop-fault-test.true steps b.in-Crash.node b.in-Crash.step
                (sym b.in-Crash.ensures.value) b.if-step-steps.false inv.filled);
          }
      | in_default b ↦
          record {
            long = ap length b.steps-is ∙ inv.long;
            filled = rw b.steps-is
                (crashes_pass xs i x c.fault-item.is c.loop-fault-test.true steps
                (λ n t. crashes-not n t x (λ a s e. b.in_default.not-Crash a s (c.parts.ensures.value ∙ e))) inv.filled);
          }
    ]
