use Rattle.std.proofs.Common.{◌≡◌, ◌++◌}
use Rattle.lf_sim.specs.Runs.{each_below}
use Rattle.lf_sim.specs.Settings.{set_of, world_of}
use Rattle.lf_taken.specs.Points.{taken_after}
use Rattle.lf_stakes.proofs.counting.push_taken.Given as goal

-- those of the steps so far are there
abbrev pub invariant-loop-past : goal.invariant-loop-past
invariant-loop-past l =
    l.numbers.items ≡ l.initial.numbers.items ++ each_below (taken_after l.setting.machine (world_of l.setting) (set_of l.run) l.node) l.past
