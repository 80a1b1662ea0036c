-- How many sets are marked in some way.
use Rattle.std.specs.Prelude.{◌≡◌, ◌≢◌, ℕ, List, [], ◌∷◌, length, Option, None, Some, ⊤}
use Rattle.std.specs.List.{Contains, AllByRecursion}
use Rattle.lf_marks.specs.Steps.{Mark, Marking, IsAnswer}
use Rattle.lf_marks.specs.Steps as mark

-- no path comes twice
abbrev pub IsApart : List (List ℕ) → Type 0
IsApart [] = ⊤
IsApart (p ∷ ps) = AllByRecursion (λ q. p ≢ q) ps × IsApart ps

-- they are the paths with a property, each once
pub record AreThose (P : List ℕ → Type 0) (ps : List (List ℕ)) : Type 0 where
  pub apart : IsApart ps
  pub all : (p : List ℕ) → P p → Contains ps p
  pub only : (p : List ℕ) → Contains ps p → P p

-- so many paths have a property
abbrev pub IsCount : (List ℕ → Type 0) → ℕ → Type 0
IsCount P n = ∥ ((ps : List (List ℕ)) × AreThose P ps × (length ps ≡ n)) ∥₁

-- some ticket claims it
abbrev pub IsClaim : Mark → Type 0
IsClaim mark.Waiting = ⊥
IsClaim mark.Open = ⊥
IsClaim (mark.Claimed t) = Unit {0}
IsClaim mark.Misses = ⊥
IsClaim mark.Reaches = ⊥
IsClaim (mark.Branch reach edges) = ⊥

-- what stands at a path is of a kind
abbrev pub OfKind : (Mark → Type 0) → Option Mark → Type 0
OfKind K None = ⊥
OfKind K (Some m) = K m

-- the sets that are open, that are claimed, that are answered, and that wait
pub record AreCounts (at : Marking) (r c a w : ℕ) : Type 0 where
  pub ready : IsCount (λ p. at p ≡ Some mark.Open) r
  pub claimed : IsCount (λ p. OfKind IsClaim (at p)) c
  pub answered : IsCount (λ p. OfKind IsAnswer (at p)) a
  pub waiting : IsCount (λ p. at p ≡ Some mark.Waiting) w
