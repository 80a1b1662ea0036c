use Rattle.std.proofs.Common.{subst}
use Rattle.lf_faults.specs.Allowed.{IsInLimits}
use Rattle.lf_latency.specs.Arrivals.{IsTiming}
use Rattle.leastfault.proofs.ReplayLemmas.{every_delay_replayed}
use Rattle.leastfault.proofs.delay_laws.every_delay_replies_replay.Goals as goal

pub returns : goal.returns
returns c known text reply reads told_so =
    every_delay_replayed c.args.scenario.now (subst (λ x. IsInLimits x.spec) c.setting-setting.ensures c.limits_are_kept.ensures)
    (subst (λ x. IsTiming x.network) c.setting-setting.ensures c.keeps_limits.ensures) c.delays_are_one.ensures c.args.faults.now c.names_are_one.ensures
    known text reads reply told_so
