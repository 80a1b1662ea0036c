use Rattle.lf_latency.specs.Arrivals.{arrival_of}
use Rattle.lf_latency.proofs.Places.{filled_more, filled_all}
use Rattle.lf_latency.proofs.network.table.Goals as goal

pub loop-k-preserved : goal.loop-k-preserved
loop-k-preserved c =
    filled_more c.args.timing.now (arrival_of c.args.timing.now) c.loop-k.arrivals c.loop-k.k c.entry.result c.loop-k.invariant
    c.loop-k-test.true c.entry.ensures

pub returns : goal.returns
returns c =
    filled_all c.args.timing.now (arrival_of c.args.timing.now) c.loop-k.arrivals c.loop-k.k c.loop-k.invariant c.loop-k-test.false
