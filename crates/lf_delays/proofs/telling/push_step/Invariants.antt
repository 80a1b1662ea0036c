use Rattle.std.proofs.Common.{◌≡◌, ◌++◌}
use Rattle.lf_sim.specs.Runs.{each_below}
use Rattle.lf_sim.specs.Settings.{set_of, world_of}
use Rattle.lf_delays.specs.Told.{told_from}
use Rattle.lf_delays.proofs.telling.push_step.Given as goal

-- those of the senders so far
abbrev pub invariant-senders : goal.invariant-senders
invariant-senders g l =
    l.delays.items ≡ l.initial.delays.items ++ each_below (told_from (world_of l.setting) (set_of l.run) l.setting.network.links l.step) l.from
