use Rattle.std.proofs.Common.{◌-◌}
use Rattle.lf_sim.specs.Settings.{world_of}
use Rattle.lf_cone.specs.Cones.{CanHear}
use Rattle.lf_cone.specs.Sweeps.{IsSweptFrom}
use Rattle.lf_cone.proofs.hearing.swept.Given as goal

abbrev pub invariant-loop-back : goal.invariant-loop-back
invariant-loop-back g l = IsSweptFrom (CanHear (world_of l.setting) l.effects.set) l.nodes l.horizon l.initial.reach (l.horizon - l.back) l.reach
