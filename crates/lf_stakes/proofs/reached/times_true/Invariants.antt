use Rattle.std.proofs.Common.{◌≡◌, take}
use Rattle.std.specs.List.{count_by}
use Rattle.lf_outcome.specs.Truth.{reaches}
use Rattle.lf_sim.specs.Settings.{world_of}
use Rattle.lf_stakes.proofs.reached.times_true.Given as goal

-- the runs of the sets so far are counted
abbrev pub invariant-loop-set : goal.invariant-loop-set
invariant-loop-set l =
    l.times ≡ count_by (λ faults. reaches (world_of l.setting) faults l.formula) (take l.set-index l.sets)
