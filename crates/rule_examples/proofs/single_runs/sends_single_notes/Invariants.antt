use Rattle.std.proofs.Common.{ℕ, ◌<◌}
use Rattle.std.specs.Prelude.{IfSome}
use Rattle.lf_sim.specs.Settings.{cell_of}
use Rattle.lf_rule_machine.specs.SingleRuns.{AreSingles}
use Rattle.rule_examples.proofs.single_runs.sends_single_notes.Given as goal

-- the steps so far
abbrev pub invariant-loop-step : goal.invariant-loop-step
invariant-loop-step l = (t : ℕ) → t < l.step → IfSome (cell_of l.run l.node t) (λ c. AreSingles c.out)
