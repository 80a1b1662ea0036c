use Rattle.std.proofs.Common.{◌≡◌}
use Rattle.lf_sim.specs.Runs.{each_below}
use Rattle.lf_sim.specs.Settings.{set_of, world_of}
use Rattle.lf_taken.specs.Points.{taken_after}
use Rattle.lf_stakes.proofs.counting.taken_in.Given as goal

-- those of the nodes so far are there
abbrev pub invariant-loop-node : goal.invariant-loop-node
invariant-loop-node l =
    l.numbers.items
    ≡ each_below (λ n. each_below (taken_after l.setting.machine (world_of l.setting) (set_of l.run) n) (world_of l.setting).horizon) l.node
