use Rattle.lf_sim.specs.Settings.{set_of, world_of}
use Rattle.lf_outcome.proofs.LoopsLemmas.{true-anywhere}
use Rattle.lf_outcome.proofs.truth.holds.Goals as goal

pub returns : goal.returns
returns g c = true-anywhere (world_of c.args.setting.now) (set_of c.args.run.now) c.args.formula.now c.is_true.result c.is_true.ensures
