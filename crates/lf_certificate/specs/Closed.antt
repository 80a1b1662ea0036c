-- Closed states: what every search keeps, whichever open sets were taken and in whatever order they were answered.
use Rattle.std.specs.Prelude.{◌≡◌, ◌⊎◌, ℕ, ◌<◌, ◌≤◌, true, false, List, length, Some, IsSome, MatchOption, Option}
use Rattle.lf_faults.specs.declared.fault.Parts.{Parts}
use Rattle.lf_faults.specs.declared.spec.Bounds.{Bounds}
use Rattle.lf_faults.specs.Faults.{set_is_before}
use Rattle.lf_sim.specs.Runs.{World}
use Rattle.lf_outcome.specs.declared.formula.Formula.{Formula}
use Rattle.lf_marks.specs.Counting.{IsCount}
use Rattle.lf_marks.specs.Steps.{Mark, Marking, IsShape, IsMarked}
use Rattle.lf_marks.specs.Steps as mark
use Rattle.lf_certificate.specs.Found.{IsFound}
use Rattle.lf_certificate.specs.Events.{IsDone}
use Rattle.lf_certificate.specs.States.{State}
use Rattle.lf_certificate.specs.Tasks.{Task, task_at}

-- it is a branch
abbrev pub IsBranchMark : Mark → Type 0
IsBranchMark mark.Waiting = ⊥
IsBranchMark mark.Open = ⊥
IsBranchMark (mark.Claimed t) = ⊥
IsBranchMark mark.Misses = ⊥
IsBranchMark mark.Reaches = ⊥
IsBranchMark (mark.Branch reach edges) = Unit {0}

-- the set misses
pub record MissesAt (at : Marking) (faults : List Parts) : Type 0 where
  pub path : List ℕ
  pub task : Task
  pub misses : at path ≡ Some mark.Misses
  pub leads : task_at at path ≡ Some task
  pub same : task.faults ≡ faults

-- the first, in the order of sets, of the sets that miss, or none where none does
abbrev pub IsFirstMissing : Marking → Option (List Parts) → Type 0
IsFirstMissing at answer =
    MatchOption answer ((faults : List Parts) → ¬ MissesAt at faults)
    (λ found. MissesAt at found × ((faults : List Parts) → MissesAt at faults → set_is_before faults found ≡ false))

module _ {Local Note Fact : Type 0} (w : World Local Note Fact) (b : Bounds) (formula : Formula Fact) where
  -- where the mark is an answer, it is what the set's run shows
  abbrev pub IsKnown : Task → Mark → Type 0
  IsKnown t mark.Waiting = Unit {0}
  IsKnown t mark.Open = Unit {0}
  IsKnown t (mark.Claimed u) = Unit {0}
  IsKnown t mark.Misses = IsFound w b formula t.faults t.excluded mark.Misses
  IsKnown t mark.Reaches = IsFound w b formula t.faults t.excluded mark.Reaches
  IsKnown t (mark.Branch reach edges) = IsFound w b formula t.faults t.excluded (mark.Branch reach edges)

  -- all sets of the level are answered, and one of them misses or the level is the budget
  pub record IsEnded (s : State) : Type 0 where
    pub done : IsDone s.marks
    pub reason : IsMarked s.marks mark.Misses ⊎ (s.level ≡ b.budget)

  -- the state of a search that keeps at most so many sets of one size
  pub record IsClosed (most : ℕ) (s : State) : Type 0 where
    pub shape : IsShape s.level s.marks
    pub within : s.level ≤ b.budget
    pub branches : (p : List ℕ) (m : Mark) → s.marks p ≡ Some m → length p < s.level → IsBranchMark m
    pub known : (p : List ℕ) (m : Mark) (t : Task) → s.marks p ≡ Some m → task_at s.marks p ≡ Some t → IsKnown t m
    pub tickets : (p : List ℕ) (t : ℕ) → s.marks p ≡ Some (mark.Claimed t) → t < s.next
    pub narrow : (k n : ℕ) → k ≤ s.level → IsCount (λ p. IsSome (s.marks p) × (length p ≡ k)) n → n ≤ most
    pub ended : s.finished ≡ true → IsEnded s
