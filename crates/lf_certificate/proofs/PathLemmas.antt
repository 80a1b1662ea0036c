-- Paths that are one or two, and how many of them have a property.
use Rattle.std.proofs.Common.{◌≡◌, ℕ, refl, List, [], ◌∷◌, length, inl, inr}
use Rattle.std.specs.Prelude.{◌⊎◌}
use mathlib.Core.Logic.{∥∥₁_map}
use Rattle.std.proofs.lemmas.Bool.{cases_eq}
use Rattle.lf_marks.specs.Counting.{AreThose, IsCount}

-- whether two paths are one
pub cases_path : (p q : List ℕ) → (p ≡ q) ⊎ (p ≡ q → ⊥)
cases_path [] [] = inl refl
cases_path [] (j ∷ q) = inr (λ e. cc)
cases_path (i ∷ p) [] = inr (λ e. cc)
cases_path (i ∷ p) (j ∷ q) = elim (cases_eq i j) [
  | inr other ↦ inr (λ e. other cc)
  | inl same ↦ elim (cases_path p q) [
    | inl rest ↦ inl cc
    | inr apart ↦ inr (λ e. apart cc)
  ]
]

-- the paths with a property, each once
Listing : (List ℕ → Type 0) → ℕ → Type 0
Listing P n = (ps : List (List ℕ)) × AreThose P ps × (length ps ≡ n)

same_listing : (P Q : List ℕ → Type 0) → ((p : List ℕ) → P p → Q p) → ((p : List ℕ) → Q p → P p) → (n : ℕ) → Listing P n → Listing Q n
unfolding Listing
same_listing P Q to from n l = (l.0, record { apart = l.1.apart; all = λ p h. l.1.all p (from p h); only = λ p h. to p (l.1.only p h) }, l.2)

-- as many paths have a property in other words
pub count-same : (P Q : List ℕ → Type 0) → ((p : List ℕ) → P p → Q p) → ((p : List ℕ) → Q p → P p) → (n : ℕ) → IsCount P n → IsCount Q n
unfolding Listing
count-same P Q to from n c = ∥∥₁_map c (same_listing P Q to from n)
