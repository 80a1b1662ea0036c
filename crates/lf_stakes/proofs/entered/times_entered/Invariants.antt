use Rattle.std.proofs.Common.{◌≡◌, take}
use Rattle.std.specs.List.{count_by}
use Rattle.lf_sim.specs.Settings.{world_of}
use Rattle.lf_stakes.specs.Entered.{is_entered_in}
use Rattle.lf_stakes.proofs.entered.times_entered.Given as goal

-- the runs of the sets so far are counted
abbrev pub invariant-loop-set : goal.invariant-loop-set
invariant-loop-set l = l.times ≡ count_by (λ faults. is_entered_in (world_of l.setting) faults l.topic) (take l.set-index l.sets)
