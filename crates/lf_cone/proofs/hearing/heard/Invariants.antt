use Rattle.lf_sim.specs.Settings.{world_of}
use Rattle.lf_cone.specs.Cones.{CanHear}
use Rattle.lf_cone.specs.Sweeps.{IsRaised, SomeBelow, IsDone}
use Rattle.lf_cone.proofs.hearing.heard.Given as goal

abbrev pub invariant-loop-from : goal.invariant-loop-from
invariant-loop-from g l = IsRaised (SomeBelow (IsDone (CanHear (world_of l.setting) l.effects.set) l.before l.step) l.from) l.before l.reach
