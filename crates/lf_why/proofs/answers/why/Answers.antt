use Rattle.lf_sim.specs.Settings.{world_of}
use Rattle.lf_why.proofs.NoneLemmas.{none_reaches}
use Rattle.lf_why.proofs.answers.why.Goals as goal

pub why_none-requires : goal.why_none-requires
why_none-requires g c =
    none_reaches (world_of c.args.setting.now) c.args.setting.now.spec c.args.formula.now c.args.tree.now c.requires c.in-None.is
