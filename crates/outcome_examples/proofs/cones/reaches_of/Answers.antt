use Rattle.std.proofs.Common.{sym, ◌∙◌}
use Rattle.lf_sim.specs.Settings.{world_of, set_of}
use Rattle.outcome_examples.proofs.OnePoint.{point-up}
use Rattle.outcome_examples.proofs.cones.reaches_of.Goals as goal

pub cone-requires-clause-up : goal.cone-requires-clause-up
cone-requires-clause-up c =
    let w = world_of c.args.setting.now in
    point-up w (set_of c.args.run.now) c.args.node c.args.step (sym (c.up.ensures.meaning w c.requires) ∙ c.if-not-up.false)

pub sharp-requires-clause-up : goal.sharp-requires-clause-up
sharp-requires-clause-up c =
    let w = world_of c.args.setting.now in
    point-up w (set_of c.args.run.now) c.args.node c.args.step (sym (c.up.ensures.meaning w c.requires) ∙ c.if-not-up.false)
