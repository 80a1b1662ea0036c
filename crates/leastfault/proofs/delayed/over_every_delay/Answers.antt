use Rattle.std.proofs.Common.{subst}
use Rattle.lf_delays.specs.Answers.{IsFirstUnder}
use Rattle.lf_sim.specs.Settings.{world_of}
use Rattle.leastfault.proofs.delayed.over_every_delay.Goals as goal

pub tight_reply-requires : goal.tight_reply-requires
tight_reply-requires g c =
    let s = c.args.scenario in
    subst (IsFirstUnder s.setting.network s.setting.spec (world_of s.setting) s.formula) c.in-Some.is c.in_ok-found.ensures
