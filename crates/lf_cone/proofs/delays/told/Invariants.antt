use Rattle.lf_latency.specs.Links.{least_of}
use Rattle.lf_cone.specs.Sweeps.{IsRaised, SomeBelow, RestsAt, RestsByLeast}
use Rattle.lf_cone.proofs.delays.told.Given as goal

abbrev pub invariant-loop-to : goal.invariant-loop-to
invariant-loop-to l = IsRaised (SomeBelow (RestsAt (RestsByLeast l.nodes (least_of l.network.links)) l.before l.step) l.to) l.before l.reach
