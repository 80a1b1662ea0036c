-- What a search by several workers answers.
use Rattle.std.specs.Prelude.{◌≡◌, ℕ, ◌+◌, ◌≤◌, true, List, Option, IsSome}
use Rattle.lf_faults.specs.declared.fault.Parts.{Parts}
use Rattle.lf_sim.specs.Settings.{world_of}
use Rattle.lf_outcome.specs.declared.scenario.Scenario.{Scenario}
use Rattle.lf_outcome.specs.Sameness.{AreSame}
use Rattle.lf_tree.specs.declared.tree.Tree.{Tree}
use Rattle.lf_certificate.specs.Accepted.{IsAnswer, IsAccepted}
use Rattle.lf_certificate.specs.Grown.{IsTreeOf}
use Rattle.lf_certificate.specs.Places.{place_at}
use Rattle.lf_marks.specs.Counting.{IsCount}
use Rattle.lf_certificate.specs.Events.{FindsFull, FindsSpent}
use Rattle.lf_certificate.specs.Levels.{AreAllLeast, IsFullAt}
use Rattle.lf_book.specs.Books.{scenario_of, state_of}
use Rattle.lf_book.specs.declared.book.Book.{Book}
use Rattle.lf_pool.specs.declared.finish.Ended.{Ended}
use Rattle.lf_pool.specs.declared.finish.Ended.TheVariants as ended
use Rattle.lf_pool.specs.declared.solving.Solved.{Solved}
use Rattle.lf_pool.specs.declared.solving.Solved.TheVariants as solved
use Rattle.lf_pool.specs.declared.solving.SolvedAll.{SolvedAll}
use Rattle.lf_pool.specs.declared.solving.SolvedAll.TheVariants as all
use Rattle.lf_pool.specs.declared.error.PoolError.{PoolError}
use Rattle.lf_pool.specs.declared.error.PoolError.TheVariants as error

-- so many workers may search
pub record AreWorkers (workers : ℕ) : Type 0 where
  pub some : 1 ≤ workers
  pub few : workers ≤ 32

-- what an ended search of a scenario has: the one tree, which every checker accepts; how many sets were run, as many as the tree has nodes;
-- and no level was too full
pub record IsSearched (s : Scenario) (tree : Tree) (runs : ℕ) : Type 0 where
  pub grown : IsTreeOf (world_of s.setting) s.setting.spec s.formula tree
  pub accepted : IsAccepted (world_of s.setting) s.setting.spec s.formula tree
  pub counted : IsCount (λ path. IsSome (place_at tree path)) runs
  pub fits : (k count : ℕ) → ¬ IsFullAt (world_of s.setting) s.setting.spec s.formula s.max_sets k count

-- what it finds: the answer, by runs alone, which its tree gives too
pub record IsFoundIn (s : Scenario) (set : Option (List Parts)) (tree : Tree) (runs : ℕ) : Type 0 where
  pub answer : IsAnswer (world_of s.setting) s.setting.spec s.formula set
  pub same : tree.answer ≡ set
  pub searched : IsSearched s tree runs

-- or all least sets, by runs alone
pub record AreFoundIn (s : Scenario) (sets : List (List Parts)) (tree : Tree) (runs : ℕ) : Type 0 where
  pub least : AreAllLeast (world_of s.setting) s.setting.spec s.formula sets
  pub searched : IsSearched s tree runs

-- a book of the scenario that can't be deepened: beneath its level so many sets wait, more than may be kept, and it is the first such level
pub record IsFullBook (s : Scenario) (count : ℕ) (book : Book) : Type 0 where
  pub scenario : AreSame s (scenario_of book)
  pub full : FindsFull s.setting.spec s.max_sets count (state_of book) (state_of book)
  pub first : IsFullAt (world_of s.setting) s.setting.spec s.formula s.max_sets ((state_of book).level + 1) count

-- a book of the scenario with an open set and no ticket
pub record IsSpentBook (s : Scenario) (book : Book) : Type 0 where
  pub scenario : AreSame s (scenario_of book)
  pub spent : FindsSpent (state_of book) (state_of book)

-- what is answered for a scenario, whoever searched
abbrev pub IsSolved : Scenario → Solved → Type 0
IsSolved s (solved.Answer set tree runs) = IsFoundIn s set tree runs
IsSolved s (solved.Full book) = (count : ℕ) × IsFullBook s count book

abbrev pub AreSolved : Scenario → SolvedAll → Type 0
AreSolved s (all.All sets tree runs) = AreFoundIn s sets.items tree runs
AreSolved s (all.Full book) = (count : ℕ) × IsFullBook s count book

-- how a search of the scenario ended
abbrev pub IsEnded : Scenario → Ended → Type 0
IsEnded s (ended.Finished book) = AreSame s (scenario_of book) × ((state_of book).finished ≡ true)
IsEnded s (ended.Full book) = (count : ℕ) × IsFullBook s count book

-- why there is no answer, where a worker finishes a search alone
abbrev pub IsLeft : Scenario → PoolError → Type 0
IsLeft s error.Workers = ⊥
IsLeft s error.Memory = Unit {0}
IsLeft s (error.OtherScenario book) = ⊥
IsLeft s (error.Spent book) = IsSpentBook s book

-- why there is no answer: the number of workers is out of range, and else memory, or no ticket; a book of another scenario never
abbrev pub IsRefused : Scenario → ℕ → PoolError → Type 0
IsRefused s workers error.Workers = ¬ AreWorkers workers
IsRefused s workers error.Memory = AreWorkers workers
IsRefused s workers (error.OtherScenario book) = ⊥
IsRefused s workers (error.Spent book) = AreWorkers workers × IsSpentBook s book

-- why no book is shared
abbrev pub IsNotBegun : ℕ → PoolError → Type 0
IsNotBegun workers error.Workers = ¬ AreWorkers workers
IsNotBegun workers error.Memory = AreWorkers workers
IsNotBegun workers (error.OtherScenario book) = ⊥
IsNotBegun workers (error.Spent book) = ⊥

-- the numbers of errors
abbrev pub number_of : PoolError → ℕ
number_of error.Workers = 1
number_of error.Memory = 2
number_of (error.OtherScenario book) = 3
number_of (error.Spent book) = 4
