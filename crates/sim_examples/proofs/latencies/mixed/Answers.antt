use Rattle.std.proofs.Common.{rules}
use Rattle.lf_latency.specs.Links.{IsPair}
use Rattle.sim_examples.proofs.latencies.mixed.Goals as goal

pub new-requires-2-clause-form : goal.new-requires-2-clause-form
new-requires-2-clause-form c =
    let first : IsPair 4 0 3 = search rules in
    let second : IsPair 4 3 0 = search rules in
    let third : IsPair 4 2 1 = search rules in
    c.with-links.ensures.form 4 (c.with-2.ensures.form 4 (c.with.ensures.form 4 c.new.ensures.form first) second) third
