-- How a search ends.
use Rattle.std.specs.Prelude.{◌≡◌, ℕ, ◌+◌, true}
use Rattle.lf_book.specs.declared.ended.Ended.{Ended}
use Rattle.lf_book.specs.declared.ended.Ended.TheVariants as ended
use Rattle.lf_book.specs.declared.stop.Stop.{Stop}
use Rattle.lf_book.specs.declared.stop.Stop.TheVariants as stop
use Rattle.lf_book.specs.Books.{scenario_of, state_of}
use Rattle.lf_book.specs.declared.book.Book.{Book}
use Rattle.lf_outcome.specs.declared.scenario.Scenario.{Scenario}
use Rattle.lf_certificate.specs.Events.{FindsFull, FindsSpent}
use Rattle.lf_certificate.specs.Levels.{IsFullAt}
use Rattle.lf_sim.specs.Settings.{world_of}

-- level k is the first with more sets than the scenario lets a search keep, so many, and every allowed set with fewer faults reaches
abbrev pub IsFull : Scenario → ℕ → ℕ → Type 0
IsFull s = IsFullAt (world_of s.setting) s.setting.spec s.formula s.max_sets

-- and no level is
abbrev pub IsNeverFull : Scenario → Type 0
IsNeverFull s = (k count : ℕ) → ¬ IsFull s k count

-- a search of the scenario has ended: its book is finished, and no level was too full; or a level is
abbrev pub IsEnd : Scenario → Ended → Type 0
IsEnd s (ended.Finished book) = (scenario_of book ≡ s) × ((state_of book).finished ≡ true) × IsNeverFull s
IsEnd s (ended.Full level count) = IsFull s level count

-- a book can't be deepened: k is the next level, where so many sets wait, more than may be kept, and it is the first such level
pub record IsStuck (book : Book) (k count : ℕ) : Type 0 where
  pub level : k ≡ (state_of book).level + 1
  pub full : FindsFull (scenario_of book).setting.spec (scenario_of book).max_sets count (state_of book) (state_of book)
  pub first : IsFull (scenario_of book) k count

-- a search stops: its book is finished, and no level was too full; or the next level is; or a set is open, and there is no ticket for it
abbrev pub IsStop : Book → Stop → Type 0
IsStop book stop.Finished = ((state_of book).finished ≡ true) × IsNeverFull (scenario_of book)
IsStop book (stop.Full level count) = IsStuck book level count
IsStop book stop.Spent = FindsSpent (state_of book) (state_of book)
