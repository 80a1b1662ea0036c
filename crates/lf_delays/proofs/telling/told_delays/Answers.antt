use Rattle.lf_sim.specs.Settings.{set_of, world_of}
use Rattle.lf_delays.specs.Told.{told_at}
use Rattle.lf_delays.proofs.Below.{steps_told}
use Rattle.lf_delays.proofs.telling.told_delays.Goals as goal

pub steps-preserved : goal.steps-preserved
steps-preserved g c =
    steps_told c.steps.delays.items c.push_step.new.delays.items
    (told_at (world_of c.args.setting.now) (set_of c.args.run.now) c.args.setting.now.network.links) c.steps.past
    c.steps.invariant c.in_ok-push_step.ensures
