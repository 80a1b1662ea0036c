use Rattle.std.proofs.Common.{replicate}
use Rattle.lf_cone.specs.Sweeps.{IsRaised, SomeBelow, PointAt}
use Rattle.lf_cone.proofs.points.covering.Given as goal

abbrev pub invariant-loop-point : goal.invariant-loop-point
invariant-loop-point l = IsRaised (SomeBelow (PointAt l.points) l.point-index) (replicate l.nodes 0) l.reach
