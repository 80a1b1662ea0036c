-- What is found of a scenario holds of each that is the same, and what an ended or a full search has found.
use mathlib.Core.Logic.{∥∥₁_elim}
use Rattle.std.proofs.Common.{◌≡◌, ℕ, refl, ◌∙◌, true, List}
use Rattle.std.specs.Prelude.{◌↔◌, Option, IsSome, Result, Ok, Err, IfOk, IfErr}
use Rattle.lf_faults.specs.declared.fault.Parts.{Parts}
use Rattle.lf_sim.specs.Settings.{world_of}
use Rattle.lf_outcome.specs.declared.scenario.Scenario.{Scenario}
use Rattle.lf_outcome.specs.Sameness.{AreSame}
use Rattle.lf_outcome.proofs.Laws.{worlds_are_one}
use Rattle.lf_tree.specs.declared.tree.Tree.{Tree}
use Rattle.lf_certificate.specs.Accepted.{IsAccepted, IsBounded}
use Rattle.lf_certificate.specs.Grown.{IsTreeOf}
use Rattle.lf_certificate.specs.Places.{place_at}
use Rattle.lf_marks.specs.Counting.{OfKind}
use Rattle.lf_marks.specs.Steps as mark
use Rattle.lf_certificate.specs.Levels.{IsFullAt}
use Rattle.lf_certificate.specs.States.{State}
use Rattle.lf_certificate.proofs.Laws.{finds_never_full}
use Rattle.lf_book.specs.Books.{scenario_of, state_of, IsClosedFor}
use Rattle.lf_book.specs.declared.book.Book.{Book}
use Rattle.lf_pool.specs.Holds.{IsAnsweredCount}
use Rattle.lf_pool.specs.Solved.{AreFoundIn, AreSolved, AreWorkers, IsFoundIn, IsFullBook, IsLeft, IsRefused, IsSearched}
use Rattle.lf_pool.specs.Solved.{IsSolved}
use Rattle.lf_pool.specs.declared.finish.Ended.{Ended}
use Rattle.lf_pool.specs.declared.solving.Solved.{Solved}
use Rattle.lf_pool.specs.declared.solving.Solved.TheVariants as solved
use Rattle.lf_pool.specs.declared.solving.SolvedAll.{SolvedAll}
use Rattle.lf_pool.specs.declared.solving.SolvedAll.TheVariants as all
use Rattle.lf_pool.specs.declared.error.PoolError.{PoolError}
use Rattle.lf_pool.specs.declared.error.PoolError.TheVariants as error
use Rattle.lf_pool.proofs.CountLemmas.{count-same}

-- a scenario is the same as itself, and sameness goes on
pub same-itself : (s : Scenario) → AreSame s s
same-itself s = record { protocol = refl; network = refl; bounds = refl; formula = refl; max_sets = refl }

same_on : (r s t : Scenario) → AreSame r s → AreSame s t → AreSame r t
same_on r s t h k = record {
  protocol = h.protocol ∙ k.protocol;
  network = h.network ∙ k.network;
  bounds = h.bounds ∙ k.bounds;
  formula = h.formula ∙ k.formula;
  max_sets = h.max_sets ∙ k.max_sets;
}

-- what is found of a scenario
searched_same : (s r : Scenario) → AreSame s r → (tree : Tree) (runs : ℕ) → IsSearched r tree runs → IsSearched s tree runs
searched_same s r same tree runs h = record {
  grown = rw (worlds_are_one s r same, same.bounds, same.formula) h.grown;
  accepted = rw (worlds_are_one s r same, same.bounds, same.formula) h.accepted;
  counted = h.counted;
  fits = rw (worlds_are_one s r same, same.bounds, same.formula, same.max_sets) h.fits;
}

found_same : (s r : Scenario) → AreSame s r → (set : Option (List Parts)) (tree : Tree) (runs : ℕ) → IsFoundIn r set tree runs
    → IsFoundIn s set tree runs
found_same s r same set tree runs h = record {
  answer = rw (worlds_are_one s r same, same.bounds, same.formula) h.answer;
  same = h.same;
  searched = searched_same s r same tree runs h.searched;
}

all_same : (s r : Scenario) → AreSame s r → (sets : List (List Parts)) (tree : Tree) (runs : ℕ) → AreFoundIn r sets tree runs
    → AreFoundIn s sets tree runs
all_same s r same sets tree runs h = record {
  least = rw (worlds_are_one s r same, same.bounds, same.formula) h.least;
  searched = searched_same s r same tree runs h.searched;
}

full_same : (s r : Scenario) → AreSame s r → (count : ℕ) (book : Book) → IsFullBook r count book → IsFullBook s count book
full_same s r same count book h = record {
  scenario = same_on s r (scenario_of book) same h.scenario;
  full = rw (same.bounds, same.max_sets) h.full;
  first = rw (worlds_are_one s r same, same.bounds, same.formula, same.max_sets) h.first;
}

pub solved-same : (s r : Scenario) → AreSame s r → (x : Solved) → IsSolved r x → IsSolved s x
solved-same s r same (solved.Answer set tree runs) h = found_same s r same set tree runs h
solved-same s r same (solved.Full book) h = (h.0, full_same s r same h.0 book h.1)

pub all-same : (s r : Scenario) → AreSame s r → (x : Result SolvedAll PoolError) → IfOk x (AreSolved r) → IfOk x (AreSolved s)
all-same s r same (Ok (all.All sets tree runs)) h = all_same s r same sets.items tree runs h
all-same s r same (Ok (all.Full book)) h = (h.0, full_same s r same h.0 book h.1)
all-same s r same (Err e) h = h

-- why a worker alone found nothing
pub left-refused : (s r : Scenario) (workers : ℕ) → AreSame s r → AreWorkers workers → (e : PoolError) → IsLeft r e → IsRefused s workers e
left-refused s r workers same some error.Workers h = absurd h
left-refused s r workers same some error.Memory h = some
left-refused s r workers same some (error.OtherScenario book) h = absurd h
left-refused s r workers same some (error.Spent book) h =
    (some, record { scenario = same_on s r (scenario_of book) same h.scenario; spent = h.spent })

pub end-refused : (s r : Scenario) (workers : ℕ) → AreSame s r → AreWorkers workers → (x : Result Ended PoolError) → IfErr x (IsLeft r)
    → IfErr x (IsRefused s workers)
end-refused s r workers same some (Ok end) h = h
end-refused s r workers same some (Err e) h = left-refused s r workers same some e h

-- an ended search was full at no level
pub never-full : (s : Scenario) (state : State) → IsBounded (world_of s.setting) s.setting.spec → ∥ IsClosedFor s state ∥₁ → state.finished ≡ true
    → (k count : ℕ) → IsFullAt (world_of s.setting) s.setting.spec s.formula s.max_sets k count → ⊥
never-full s state bounded closed finished k count full = ∥∥₁_elim closed (λ x y. absurd x) (λ c.
    finds_never_full (world_of s.setting) s.setting.spec s.formula s.max_sets state bounded c finished k count full)

-- and has so many answered sets as its tree has nodes
module _ (book : Book) (tree : Tree) (n : ℕ) (bounded : IsBounded (world_of (scenario_of book).setting) (scenario_of book).setting.spec)
    (closed : ∥ IsClosedFor (scenario_of book) (state_of book) ∥₁) (finished : (state_of book).finished ≡ true)
    (places : (path : List ℕ) → IsSome (place_at tree path) ↔ OfKind mark.IsAnswer ((state_of book).marks path))
    (counted : IsAnsweredCount book n) where
  pub ended-searched : IsTreeOf (world_of (scenario_of book).setting) (scenario_of book).setting.spec (scenario_of book).formula tree
      → IsAccepted (world_of (scenario_of book).setting) (scenario_of book).setting.spec (scenario_of book).formula tree
      → IsSearched (scenario_of book) tree n
  ended-searched grown accepted = record {
    grown = grown;
    accepted = accepted;
    counted = count-same (λ p. OfKind mark.IsAnswer ((state_of book).marks p)) (λ p. IsSome (place_at tree p))
        (λ p. (places p).1) (λ p. (places p).0) n counted;
    fits = never-full (scenario_of book) (state_of book) bounded closed finished;
  }
