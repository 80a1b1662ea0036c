use Rattle.std.proofs.Common.{ℕ}
use Rattle.std.specs.Prelude.{IfSome}
use Rattle.lf_sim.specs.Settings.{cell_of}
use Rattle.lf_rule_machine.specs.SingleRuns.{AreSingles}
use Rattle.rule_examples.proofs.CellsLemmas.{below-more, cell-known}
use Rattle.rule_examples.proofs.single_runs.sends_single_notes.Goals as goal

pub loop-step-preserved : goal.loop-step-preserved
loop-step-preserved c =
    below-more (λ t. IfSome (cell_of c.args.run.now c.args.node t) (λ x. AreSingles x.out)) c.loop-step.step c.loop-step.invariant
    (cell-known (cell_of c.args.run.now c.args.node c.loop-step.step) c.turn.result c.turn.ensures (c.are_single.ensures c.if-not-are_single.false))
