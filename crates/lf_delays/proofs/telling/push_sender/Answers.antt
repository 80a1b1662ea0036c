use Rattle.lf_sim.specs.Settings.{set_of, world_of}
use Rattle.lf_delays.specs.Told.{told_in}
use Rattle.lf_delays.proofs.Below.{more_told}
use Rattle.lf_delays.proofs.telling.push_sender.Goals as goal

pub receivers-preserved : goal.receivers-preserved
receivers-preserved g c =
    more_told c.args.delays.now.items c.receivers.delays.items c.push_slot.new.delays.items
    (told_in (world_of c.args.setting.now) (set_of c.args.run.now) c.args.setting.now.network.links c.args.step c.args.from) c.receivers.to
    c.receivers.invariant c.in_ok-push_slot.ensures
