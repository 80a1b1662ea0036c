use Rattle.std.proofs.Common.{ℕ, ◌<◌}
use Rattle.lf_sim.specs.Settings.{world_of}
use Rattle.lf_cone.specs.Cones.{IsHeard}
use Rattle.lf_cone.proofs.hearing.is_done.Given as goal

abbrev pub invariant-loop-to : goal.invariant-loop-to
invariant-loop-to g l = (m : ℕ) → m < l.to → IsHeard (world_of l.setting) l.effects.set l.reach l.from l.step m → ⊥
