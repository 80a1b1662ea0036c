use Rattle.std.proofs.Common.{◌≡◌, ◌∙◌, ap, sym, subst, take, arith}
use Rattle.std.proofs.lemmas.List.{take_all}
use Rattle.lf_latency.specs.Arrivals.{IsArrivals}
use Rattle.lf_delays.specs.Delays.{delayed}
use Rattle.lf_delays.proofs.Tables.{delayed_is, put_more}
use Rattle.lf_delays.proofs.reading.arrivals_of.Goals as goal

pub returns-clause-arrivals : goal.returns-clause-arrivals
returns-clause-arrivals c =
    let timing = c.args.network.now in
    let ds = c.args.delays.now in
    let all : take c.delays.delay-index ds ≡ ds = take_all c.delays.delay-index ds (omega arith) in
    subst (IsArrivals timing) (sym (c.delays.invariant ∙ ap (delayed timing) all))
    (delayed_is timing ds c.keeps_limits.ensures.nodes_at_most c.keeps_limits.ensures.horizon_at_most c.requires)

pub delays-preserved : goal.delays-preserved
delays-preserved c =
    put_more c.args.network.now c.args.delays.now c.delays.delay-index (record { slot = record { from = 0; to = 0; step = 0 }; at = 0 })
    c.delays.arrivals c.put.new.self
    c.keeps_limits.ensures.nodes_at_most c.keeps_limits.ensures.horizon_at_most c.requires c.delays-test.true c.delays.invariant c.put.ensures
