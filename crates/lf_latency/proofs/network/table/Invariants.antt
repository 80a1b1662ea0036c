use Rattle.lf_latency.specs.Arrivals.{arrival_of}
use Rattle.lf_latency.proofs.Places.{IsFilled}
use Rattle.lf_latency.proofs.network.table.Given as goal

abbrev pub invariant-loop-k : goal.invariant-loop-k
invariant-loop-k l = IsFilled l.timing (arrival_of l.timing) l.arrivals l.k
