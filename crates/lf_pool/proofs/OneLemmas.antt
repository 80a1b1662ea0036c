-- What is answered for a scenario is one thing.
use Rattle.std.proofs.Common.{◌≡◌, ℕ, ◌+◌, ◌<◌, sym, ap, ◌∙◌, subst, arith, List, length, inl, inr}
use Rattle.std.specs.Prelude.{Option, IsSome}
use Rattle.std.proofs.lemmas.Bool.{cases_lt}
use Rattle.lf_faults.specs.declared.fault.Parts.{Parts}
use Rattle.lf_faults.specs.declared.spec.Bounds.{Bounds}
use Rattle.lf_sim.specs.Runs.{World}
use Rattle.lf_sim.specs.Settings.{world_of}
use Rattle.lf_outcome.specs.declared.formula.Formula.{Formula}
use Rattle.lf_outcome.specs.declared.scenario.Scenario.{Scenario}
use Rattle.lf_tree.specs.declared.tree.Tree.{Tree}
use Rattle.lf_certificate.specs.Places.{place_at}
use Rattle.lf_certificate.proofs.Laws.{tree_one}
use Rattle.lf_marks.specs.Counting.{IsCount}
use Rattle.lf_certificate.specs.Levels.{Grows, IsLevelSize, IsFullAt}
use Rattle.lf_certificate.specs.Tasks.{Task, root_task}
use Rattle.lf_book.specs.Books.{state_of}
use Rattle.lf_book.specs.declared.book.Book.{Book}
use Rattle.lf_pool.specs.Solved.{IsFoundIn, IsFullBook, IsSearched}
use Rattle.lf_book.proofs.Laws.{count_one}

searched_one : (s : Scenario) (tree second : Tree) (runs more : ℕ) → IsSearched s tree runs → IsSearched s second more
    → (tree ≡ second) × (runs ≡ more)
searched_one s tree second runs more h k =
    let trees : tree ≡ second = tree_one (world_of s.setting) s.setting.spec s.formula tree second h.grown k.grown in (
      trees,
      count_one (λ path. IsSome (place_at tree path)) runs more h.counted
          (subst (λ t. IsCount (λ path. IsSome (place_at t path)) more) (sym trees) k.counted),
    )

pub found-one : (s : Scenario) (set other : Option (List Parts)) (tree second : Tree) (runs more : ℕ) → IsFoundIn s set tree runs
    → IsFoundIn s other second more → (set ≡ other) × (tree ≡ second) × (runs ≡ more)
found-one s set other tree second runs more h k =
    let same = searched_one s tree second runs more h.searched k.searched in
    (sym h.same ∙ ap (λ t. t.answer) same.0 ∙ k.same, same.0, same.1)

module _ {Local Note Fact : Type 0} (w : World Local Note Fact) (b : Bounds) (formula : Formula Fact) (most : ℕ) where
  -- of two levels that are the first that is too full neither is higher
  not_lower : (k j n m : ℕ) → IsFullAt w b formula most k n → IsFullAt w b formula most j m → k < j → ⊥
  not_lower k j n m h i low = omega (arith, i.fits k n low h.size, h.many)

  level_one : (k j n m : ℕ) → IsFullAt w b formula most k n → IsFullAt w b formula most j m → k ≡ j
  level_one k j n m h i = elim (cases_lt k j) [
    | inl low ↦ absurd (not_lower k j n m h i low)
    | inr high ↦ elim (cases_lt j k) [
      | inl low ↦ absurd (not_lower j k m n i h low)
      | inr lower ↦ omega (arith, high, lower)
    ]
  ]

  size_one : (k j n m : ℕ) → IsFullAt w b formula most k n → IsFullAt w b formula most j m → n ≡ m
  size_one k j n m h i =
      let P : ℕ → List ℕ → Type 0 = λ l path. (length path ≡ l) × (u : Task) × Grows w b formula root_task path u in
      count_one (P j) n m (subst (λ l. IsLevelSize w b formula l n) (level_one k j n m h i) h.size) i.size

pub full-one : (s : Scenario) (count more : ℕ) (book other : Book) → IsFullBook s count book → IsFullBook s more other
    → ((state_of book).level ≡ (state_of other).level) × (count ≡ more)
full-one s count more book other h k =
    let w = world_of s.setting in
    let one = (state_of book).level + 1 in
    let two = (state_of other).level + 1 in (
      omega (arith, level_one w s.setting.spec s.formula s.max_sets one two count more h.first k.first),
      size_one w s.setting.spec s.formula s.max_sets one two count more h.first k.first,
    )
