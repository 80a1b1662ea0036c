use Rattle.lf_sim.specs.Settings.{set_of, world_of}
use Rattle.lf_delays.specs.Told.{told_from}
use Rattle.lf_delays.proofs.Below.{more_told}
use Rattle.lf_delays.proofs.telling.push_step.Goals as goal

pub senders-preserved : goal.senders-preserved
senders-preserved g c =
    more_told c.args.delays.now.items c.senders.delays.items c.push_sender.new.delays.items
    (told_from (world_of c.args.setting.now) (set_of c.args.run.now) c.args.setting.now.network.links c.args.step) c.senders.from
    c.senders.invariant c.in_ok-push_sender.ensures
