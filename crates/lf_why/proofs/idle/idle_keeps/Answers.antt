use Rattle.lf_sim.specs.Settings.{world_of}
use Rattle.lf_why.proofs.IdleLemmas.{kept_first}
use Rattle.lf_why.proofs.idle.idle_keeps.Goals as goal

pub returns : goal.returns
returns g c = kept_first (world_of c.args.setting.now) c.args.formula.now c.is_kept.result c.is_kept.ensures
