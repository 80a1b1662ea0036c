use Rattle.std.proofs.Common.{subst}
use Rattle.lf_delays.specs.Answers.{IsFirstUnder}
use Rattle.lf_sim.specs.Settings.{world_of}
use Rattle.outcome_examples.proofs.delay_laws.has_tight.Goals as goal

pub spared-requires : goal.spared-requires
spared-requires c =
    let s = c.args.scenario in
    subst (IsFirstUnder s.setting.network s.setting.spec (world_of s.setting) s.formula) c.in-Some.is c.in_ok-found.ensures
