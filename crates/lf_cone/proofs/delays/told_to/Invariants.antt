use Rattle.lf_latency.specs.Links.{least_of}
use Rattle.lf_cone.specs.Sweeps.{IsRaised, SomeBelow, RestsByOne}
use Rattle.lf_cone.proofs.delays.told_to.Given as goal

abbrev pub invariant-loop-from : goal.invariant-loop-from
invariant-loop-from l = IsRaised (SomeBelow (RestsByOne l.nodes (least_of l.network.links) l.to l.step) l.from) l.initial.reach l.reach
