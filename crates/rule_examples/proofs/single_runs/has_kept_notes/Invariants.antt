use Rattle.std.proofs.Common.{ℕ, ◌≡◌, ◌<◌, ◌≤◌, false}
use Rattle.std.specs.Prelude.{IfSome}
use Rattle.lf_sim.specs.Settings.{horizon_of, state_of}
use Rattle.rule_examples.proofs.single_runs.has_kept_notes.Given as goal

-- the nodes so far
abbrev pub invariant-loop-node : goal.invariant-loop-node
invariant-loop-node l = (n t : ℕ) → n < l.node → t ≤ horizon_of l.run → IfSome (state_of l.run n t) (λ s. s.replaced ≡ false)
