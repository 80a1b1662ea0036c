use Rattle.std.proofs.Common.{ℕ, ◌≡◌, ◌<◌, false}
use Rattle.std.specs.Prelude.{IfSome}
use Rattle.lf_sim.specs.Settings.{state_of}
use Rattle.rule_examples.proofs.single_runs.keeps_notes.Given as goal

-- the steps so far
abbrev pub invariant-loop-step : goal.invariant-loop-step
invariant-loop-step l = (t : ℕ) → t < l.step → IfSome (state_of l.run l.node t) (λ s. s.replaced ≡ false)
