use Rattle.std.proofs.Common.{◌≡◌, take}
use Rattle.lf_sim.specs.Settings.{world_of}
use Rattle.lf_stakes.specs.Stakes.{counts_of}
use Rattle.lf_stakes.proofs.counting.rules_taken.Given as goal

-- the runs of the sets so far are counted
abbrev pub invariant-loop-set : goal.invariant-loop-set
invariant-loop-set l = l.counts.items ≡ counts_of l.setting.machine (world_of l.setting) (take l.set-index l.sets)
