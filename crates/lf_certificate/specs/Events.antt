-- The events of a search: how each changes its state. What isn't said to change stays.
use Rattle.std.specs.Prelude.{◌≡◌, ℕ, ◌+◌, ◌<◌, ◌≤◌, true, false, List, Some}
use Rattle.lf_faults.specs.declared.spec.Bounds.{Bounds}
use Rattle.lf_marks.specs.Counting.{IsCount}
use Rattle.lf_marks.specs.Steps.{Mark, Marking, Took, Answered, GaveBack, Reclaimed, WentDown, IsMarked, IsUnmarked, IsSame}
use Rattle.lf_marks.specs.Steps as mark
use Rattle.lf_certificate.specs.States.{State, IsSameState, KeepsTurn, last_ticket}
use Rattle.lf_certificate.specs.Tasks.{Task, task_at}

-- no ticket claims a set
abbrev pub IsUnclaimed : Marking → Type 0
IsUnclaimed at = (t : ℕ) → IsUnmarked at (mark.Claimed t)

-- an open set, any, is claimed by the next ticket
pub record TakesSet (path : List ℕ) (ticket : ℕ) (task : Task) (old new : State) : Type 0 where
  pub going : old.finished ≡ false
  pub room : old.next < last_ticket
  pub fresh : ticket ≡ old.next
  pub works : task_at old.marks path ≡ Some task
  pub marks : Took path ticket old.marks new.marks
  pub next : new.next ≡ old.next + 1
  pub level : new.level ≡ old.level
  pub finished : new.finished ≡ old.finished

-- nothing is to be taken: all sets of the level are claimed or answered and some are claimed, or all are answered, or the search has
-- ended; or there is an open set and no ticket
pub record FindsBusy (old new : State) : Type 0 where
  pub going : old.finished ≡ false
  pub none : IsUnmarked old.marks mark.Open
  pub claimed : ¬ IsUnclaimed old.marks
  pub same : IsSameState old new

pub record FindsLevelDone (old new : State) : Type 0 where
  pub going : old.finished ≡ false
  pub none : IsUnmarked old.marks mark.Open
  pub free : IsUnclaimed old.marks
  pub same : IsSameState old new

pub record FindsFinished (old new : State) : Type 0 where
  pub finished : old.finished ≡ true
  pub same : IsSameState old new

pub record FindsSpent (old new : State) : Type 0 where
  pub going : old.finished ≡ false
  pub ready : ¬ IsUnmarked old.marks mark.Open
  pub spent : old.next ≡ last_ticket
  pub same : IsSameState old new

-- a claim stands: the ticket claims the set at the path, which is worked with the task
pub record Claims (path : List ℕ) (ticket : ℕ) (task : Task) (at : Marking) : Type 0 where
  pub claimed : at path ≡ Some (mark.Claimed ticket)
  pub works : task_at at path ≡ Some task

-- what was found of a claimed set is its mark, and its kids wait
pub record FilesMark (path : List ℕ) (ticket : ℕ) (task : Task) (m : Mark) (old new : State) : Type 0 where
  pub claims : Claims path ticket task old.marks
  pub marks : Answered path ticket m old.marks new.marks
  pub keeps : KeepsTurn old new

-- a claimed set is open again
pub record GivesBack (path : List ℕ) (ticket : ℕ) (task : Task) (old new : State) : Type 0 where
  pub claims : Claims path ticket task old.marks
  pub marks : GaveBack path ticket old.marks new.marks
  pub keeps : KeepsTurn old new

-- all claimed sets are open again
pub record Reclaims (old new : State) : Type 0 where
  pub marks : Reclaimed old.marks new.marks
  pub keeps : KeepsTurn old new

-- each set of the level is answered
pub record IsDone (at : Marking) : Type 0 where
  pub none : IsUnmarked at mark.Open
  pub free : IsUnclaimed at

-- some set of the level isn't answered
abbrev pub IsUndone : Marking → Type 0
IsUndone at = ¬ IsDone at

-- the search has ended, and nothing else changed
pub record Ends (old new : State) : Type 0 where
  pub level : new.level ≡ old.level
  pub next : new.next ≡ old.next
  pub finished : new.finished ≡ true
  pub marks : IsSame old.marks new.marks

-- a set of the level isn't answered
pub record IsNotDone (old new : State) : Type 0 where
  pub undone : IsUndone old.marks
  pub same : IsSameState old new

-- all are answered, and one misses
pub record FindsAnswer (old new : State) : Type 0 where
  pub done : IsDone old.marks
  pub missing : IsMarked old.marks mark.Misses
  pub ends : Ends old new

-- all reach, and the level is the budget
pub record FindsNone (b : Bounds) (old new : State) : Type 0 where
  pub done : IsDone old.marks
  pub reaching : IsUnmarked old.marks mark.Misses
  pub last : old.level ≡ b.budget
  pub ends : Ends old new

-- all reach, and more sets wait than may be kept
pub record FindsFull (b : Bounds) (most count : ℕ) (old new : State) : Type 0 where
  pub done : IsDone old.marks
  pub reaching : IsUnmarked old.marks mark.Misses
  pub above : old.level < b.budget
  pub waiting : IsCount (λ p. old.marks p ≡ Some mark.Waiting) count
  pub many : most < count
  pub same : IsSameState old new

-- all reach, and the sets that wait are open
pub record GoesDown (b : Bounds) (most : ℕ) (old new : State) : Type 0 where
  pub done : IsDone old.marks
  pub reaching : IsUnmarked old.marks mark.Misses
  pub above : old.level < b.budget
  pub few : (n : ℕ) → IsCount (λ p. old.marks p ≡ Some mark.Waiting) n → n ≤ most
  pub marks : WentDown old.marks new.marks
  pub level : new.level ≡ old.level + 1
  pub next : new.next ≡ old.next
  pub finished : new.finished ≡ old.finished
