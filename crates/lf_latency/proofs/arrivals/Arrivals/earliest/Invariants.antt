use Rattle.lf_latency.specs.Arrivals.{earliest}
use Rattle.lf_latency.proofs.Places.{IsFilled}
use Rattle.lf_latency.proofs.arrivals.Arrivals.earliest.Given as goal

abbrev pub invariant-loop-k : goal.invariant-loop-k
invariant-loop-k l = IsFilled l.network (earliest l.network.links) l.steps l.k
