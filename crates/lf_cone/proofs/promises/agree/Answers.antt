use Rattle.lf_sim.specs.Settings.{world_of, set_of}
use Rattle.lf_cone.proofs.Laws.{agrees, still_reaches}
use Rattle.lf_cone.proofs.promises.agree.Goals as goal

pub returns-clause-agrees : goal.returns-clause-agrees
returns-clause-agrees g c =
    let s = c.args.setting.now in
    agrees (world_of s) s.spec (set_of c.args.run.now) c.args.wider.now c.args.reach.now c.pause_length-limits.ensures.limits.pause_length.0 c.requires.closed
    c.requires.allowed c.requires.outside

pub returns-clause-reaches : goal.returns-clause-reaches
returns-clause-reaches g c =
    let s = c.args.setting.now in
    still_reaches (world_of s) s.spec (set_of c.args.run.now) c.args.wider.now c.args.reach.now c.pause_length-limits.ensures.limits.pause_length.0
    c.requires.closed c.requires.allowed c.requires.outside
    c.args.formula.now c.requires.within
