use Rattle.std.proofs.Common.{ℕ, ◌<◌, ◌≤◌, ◌≡◌, true}
use Rattle.lf_sim.specs.Settings.{world_of}
use Rattle.lf_sim.specs.Runs.{is_up}
use Rattle.lf_cone.proofs.required.lives.Given as goal

abbrev pub invariant-loop-step : goal.invariant-loop-step
invariant-loop-step g l = (t : ℕ) → l.first ≤ t → t < l.step → is_up (world_of l.setting) l.view.effects.set l.node t ≡ true → ⊥
