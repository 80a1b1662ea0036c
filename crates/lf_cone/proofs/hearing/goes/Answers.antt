use Rattle.std.proofs.Common.{◌∙◌, ◌<◌, arith}
use Rattle.lf_sim.specs.Settings.{world_of}
use Rattle.lf_cone.proofs.HearingLemmas.{up-left}
use Rattle.lf_cone.proofs.hearing.goes.Goals as goal

pub returns-clause-value : goal.returns-clause-value
returns-clause-value g c =
    let s = c.args.setting.now in
    let node : c.args.node < (world_of s).rules.nodes = omega (arith, c.requires.node, s.nodes_agree) in
    c.leaves_up.ensures ∙ up-left (world_of s) c.args.effects.now.set c.pause_length.result c.args.node c.args.step node c.requires.first c.requires.step
    c.pause_length.ensures.value
