-- What crates above may cite of this one beside its contracts.
use Rattle.std.proofs.Common.{◌≡◌, ℕ, ◌<◌, List, arith, subst, inl, inr}
use Rattle.lf_marks.specs.Counting.{AreCounts, IsCount}
use Rattle.lf_marks.specs.Steps.{Marking, IsUnmarked}
use Rattle.lf_marks.specs.Steps as mark
use Rattle.std.proofs.lemmas.Bool.{cases_lt}
use Rattle.lf_book.specs.Ends.{IsFull}
use Rattle.lf_book.specs.Books.{IsClaimOf, IsRefusedFor}
use Rattle.lf_book.specs.declared.book.Book.{Book}
use Rattle.lf_book.specs.declared.filing.Refusal.{Refusal}
use Rattle.lf_book.specs.declared.filing.Refusal.TheVariants as refusal
use Rattle.lf_outcome.specs.declared.scenario.Scenario.{Scenario}
use Rattle.lf_certificate.specs.Levels.{IsLevelSize}
use Rattle.lf_certificate.specs.Tasks.{Task}
use Rattle.lf_sim.specs.Settings.{world_of}
use Rattle.lf_book.proofs.CountLemmas as counts

-- There is one number at most of the paths with a property,
pub count_one : (P : List ℕ → Type 0) (n m : ℕ) → IsCount P n → IsCount P m → n ≡ m
count_one P n m c d = omega (arith, counts.count-most P n m c d, counts.count-most P m n d c)

-- and where open sets are counted, one is open
pub some_ready : (at : Marking) (r c a w : ℕ) → 0 < r → AreCounts at r c a w → IsUnmarked at mark.Open → ⊥
some_ready = counts.some-ready

module _ (s : Scenario) (k l count other : ℕ) (one : IsFull s k count) (two : IsFull s l other) where
  level_is : k ≡ l
  level_is = elim (cases_lt k l) [
    | inl before ↦ absurd (omega (arith, two.fits k count before one.size, one.many))
    | inr rest ↦ elim (cases_lt l k) [
      | inl after ↦ absurd (omega (arith, one.fits l other after two.size, two.many))
      | inr same ↦ omega (arith, rest, same)
    ]
  ]

  -- There is one first level at most that is too full, with one number of sets
  pub full_is_one : (k ≡ l) × (count ≡ other)
  full_is_one = (
    level_is,
    count_one _ count other (subst (λ j. IsLevelSize (world_of s.setting) s.setting.spec s.formula j count) level_is one.size) two.size,
  )

-- What names a claim of a book isn't refused
pub never_refused : (book : Book) (t : ℕ) (s : Scenario) (path : List ℕ) (task : Task) (r : Refusal) → IsRefusedFor book t s path task r
    → IsClaimOf book t s path task → ⊥
never_refused book t s path task refusal.NoClaim refused claim = refused path claim.claims.claimed
never_refused book t s path task refusal.OtherScenario refused claim = refused.1 claim.same
never_refused book t s path task refusal.OtherSet refused claim = refused.2 claim.claims
