use Rattle.std.proofs.Common.{◌≡◌, false}
use Rattle.std.specs.Prelude.{IfSome}
use Rattle.lf_sim.specs.Settings.{state_of}
use Rattle.rule_examples.proofs.CellsLemmas.{below-more}
use Rattle.rule_examples.proofs.KeptLemmas.{state-known}
use Rattle.rule_examples.proofs.single_runs.keeps_notes.Goals as goal

pub loop-step-preserved : goal.loop-step-preserved
loop-step-preserved c =
    below-more (λ t. IfSome (state_of c.args.run.now c.args.node t) (λ s. s.replaced ≡ false)) c.loop-step.step c.loop-step.invariant
    (state-known (state_of c.args.run.now c.args.node c.loop-step.step) c.state.result c.state.ensures.value c.if-state.false)
