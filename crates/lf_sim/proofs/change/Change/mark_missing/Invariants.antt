use Rattle.std.proofs.Common.{◌≡◌, ℕ, true, take}
use Rattle.lf_sim.specs.Settings.{world_of}
use Rattle.lf_sim.specs.Changes.{AreMarked}
use Rattle.lf_sim.specs.Marks.{is_marked}
use Rattle.lf_sim.proofs.change.Change.mark_missing.Given as goal

-- the faults so far are marked
abbrev pub invariant-loop-fault : goal.invariant-loop-fault
invariant-loop-fault g l =
    record {
      marked : AreMarked (world_of l.self.setting.now) l.self.to.now.set l.run (take l.fault-index l.fault-items) l.other l.marks.points;
      kept : (n t : ℕ) → is_marked l.initial.marks.points n t ≡ true → is_marked l.marks.points n t ≡ true;
    }
