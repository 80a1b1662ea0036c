-- The states of a search.
use Rattle.std.specs.Prelude.{◌≡◌, ℕ, ◌-◌, ◌^◌, Bool, false}
use Rattle.lf_marks.specs.Steps.{Marking, IsSame, only_root}

-- how deep the sets stand that may be worked, the next ticket, whether the search has ended, and the marks of its sets
pub record State : Type 0 where
  pub level : ℕ
  pub next : ℕ
  pub finished : Bool
  pub marks : Marking

-- a ticket that is never used
abbrev pub last_ticket : ℕ
last_ticket = 2 ^ 64 - 1

-- nothing changed
pub record IsSameState (old new : State) : Type 0 where
  pub level : new.level ≡ old.level
  pub next : new.next ≡ old.next
  pub finished : new.finished ≡ old.finished
  pub marks : IsSame old.marks new.marks

-- nothing but marks changed
pub record KeepsTurn (old new : State) : Type 0 where
  pub level : new.level ≡ old.level
  pub next : new.next ≡ old.next
  pub finished : new.finished ≡ old.finished

-- at the beginning the empty set is open
pub record IsStart (s : State) : Type 0 where
  pub level : s.level ≡ 0
  pub next : s.next ≡ 1
  pub finished : s.finished ≡ false
  pub marks : IsSame only_root s.marks
