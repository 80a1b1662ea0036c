use Rattle.std.proofs.Common.{ℕ, ◌<◌, ◌≤◌}
use Rattle.std.specs.Prelude.{IfSome}
use Rattle.lf_sim.specs.Settings.{cell_of, horizon_of}
use Rattle.lf_rule_machine.specs.SingleRuns.{AreSingles}
use Rattle.rule_examples.proofs.single_runs.has_single_notes.Given as goal

-- the nodes so far
abbrev pub invariant-loop-node : goal.invariant-loop-node
invariant-loop-node l = (n t : ℕ) → n < l.node → t ≤ horizon_of l.run → IfSome (cell_of l.run n t) (λ c. AreSingles c.out)
