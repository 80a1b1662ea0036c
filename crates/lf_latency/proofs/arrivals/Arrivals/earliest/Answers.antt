use Rattle.std.proofs.Common.{ap, sym, subst}
use Rattle.lf_latency.specs.Arrivals.{IsArrivals, earliest}
use Rattle.lf_latency.proofs.Places.{filled_more, filled_all, table_is, earliest_is}
use Rattle.lf_latency.proofs.arrivals.Arrivals.earliest.Goals as goal

pub loop-k-preserved : goal.loop-k-preserved
loop-k-preserved c =
    filled_more c.args.network.now (earliest c.args.network.now.links) c.loop-k.steps c.loop-k.k c.first_step.result c.loop-k.invariant
    c.loop-k-test.true c.first_step.ensures

pub returns-clause-value : goal.returns-clause-value
returns-clause-value c =
    ap (λ steps. record { steps = steps })
    (filled_all c.args.network.now (earliest c.args.network.now.links) c.loop-k.steps c.loop-k.k c.loop-k.invariant c.loop-k-test.false)

pub returns-clause-assigned : goal.returns-clause-assigned
returns-clause-assigned c =
    let timing = c.args.network.now in
    subst (IsArrivals timing) (sym (returns-clause-value c))
    (table_is timing (earliest timing.links) c.keeps_limits.ensures.nodes_at_most c.keeps_limits.ensures.horizon_at_most (earliest_is timing))
