use Rattle.std.proofs.Common.{◌≡◌, ◌++◌}
use Rattle.lf_sim.specs.Runs.{each_below}
use Rattle.lf_sim.specs.Settings.{set_of, world_of}
use Rattle.lf_delays.specs.Told.{told_in}
use Rattle.lf_delays.proofs.telling.push_sender.Given as goal

-- those of the receivers so far
abbrev pub invariant-receivers : goal.invariant-receivers
invariant-receivers g l =
    l.delays.items ≡ l.initial.delays.items ++ each_below (told_in (world_of l.setting) (set_of l.run) l.setting.network.links l.step l.from) l.to
