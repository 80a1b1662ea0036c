-- A search that one thread makes, between two of its sets.
use Rattle.std.specs.Prelude.{◌≡◌, ℕ, ◌+◌, ◌*◌, ◌<◌, ◌≤◌, false, List, length, Option, None, Some}
use Rattle.std.specs.List.{Contains}
use Rattle.lf_book.specs.Ends.{IsStop}
use Rattle.lf_book.specs.declared.ending.Worked.{Worked}
use Rattle.lf_book.specs.declared.ending.Worked.TheVariants as worked
use Rattle.lf_book.specs.declared.stop.Stop.{Stop}
use Rattle.lf_book.specs.Books.{state_of}
use Rattle.lf_book.specs.declared.book.Book.{Book}
use Rattle.lf_marks.specs.Steps.{Mark, Marking, IsAnswer}
use Rattle.lf_marks.specs.Steps as mark
use Rattle.lf_outcome.specs.Limits.{most_sets}
use Rattle.lf_certificate.specs.Events.{FindsSpent, IsDone, IsUnclaimed}
use Rattle.lf_certificate.specs.States.{State, last_ticket}

-- what is answered stays
abbrev pub KeepsAnswers : Marking → Marking → Type 0
KeepsAnswers old new = (p : List ℕ) (m : Mark) → IsAnswer m → old p ≡ Some m → new p ≡ Some m

-- the open sets are among some, and the tickets that were given and one for each of these are no more than the levels down to here
-- have sets at most
pub record HasTickets (s : State) : Type 0 where
  pub paths : List (List ℕ)
  pub ready : (p : List ℕ) → s.marks p ≡ Some mark.Open → Contains paths p
  pub few : s.next + length paths ≤ 1 + (s.level + 1) * most_sets

-- the search goes on, nothing is claimed, and there are tickets for all that is open
pub record IsUnderway (s : State) : Type 0 where
  pub going : s.finished ≡ false
  pub free : IsUnclaimed s.marks
  pub high : s.level ≤ 6
  pub tickets : ∥ HasTickets s ∥₁

-- one ticket more was given, on the same level, and nothing is claimed
pub record IsNextTurn (old new : State) : Type 0 where
  pub level : new.level ≡ old.level
  pub room : old.next < last_ticket
  pub next : new.next ≡ old.next + 1
  pub free : IsUnclaimed new.marks

-- an open set is answered, or there is no ticket for it
abbrev pub IsTurn : State → State → Worked → Type 0
IsTurn old new worked.Done = IsNextTurn old new
IsTurn old new worked.Spent = FindsSpent new new

-- all sets of the level are answered, or there is no ticket for one
abbrev pub IsWorked : State → State → Worked → Type 0
IsWorked old new worked.Done = (new.level ≡ old.level) × IsDone new.marks
IsWorked old new worked.Spent = FindsSpent new new

-- the next level is to be worked
pub record IsNextLevel (old new : State) : Type 0 where
  pub level : new.level ≡ old.level + 1
  pub high : new.level ≤ 6
  pub free : IsUnclaimed new.marks

-- what comes after a level
abbrev pub IsAfter : Book → Book → Option Stop → Type 0
IsAfter old new None = IsNextLevel (state_of old) (state_of new)
IsAfter old new (Some stops) = IsStop new stops
