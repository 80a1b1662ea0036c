use Rattle.lf_sim.specs.Settings.{world_of}
use Rattle.lf_sim.proofs.points.inboxes_of.Goals as goal

pub returns : goal.returns
returns g c faults m u letter node =
    c.by_points.ensures.members (world_of c.args.setting.now) faults c.arrivals_are_later.ensures m u letter node
