-- What a walk over a tree is to find, and what it is to leave.
use Rattle.std.specs.Prelude.{◌≡◌, ◌⊎◌, ℕ, ◌+◌, ◌<◌, false, List, [], ◌∷◌, ◌++◌, Option, Some, MatchOption}
use Rattle.lf_faults.specs.declared.fault.Parts.{Parts}
use Rattle.lf_faults.specs.declared.spec.Bounds.{Bounds}
use Rattle.lf_faults.specs.Faults.{set_is_before}
use Rattle.lf_sim.specs.Runs.{World}
use Rattle.lf_outcome.specs.declared.formula.Formula.{Formula}
use Rattle.lf_tree.specs.declared.tree.Node.{Node}
use Rattle.lf_tree.specs.declared.tree.Node.TheOpen.{Node-F}
use Rattle.lf_certificate.specs.declared.reason.Reason.{Reason}
use Rattle.lf_certificate.specs.Places.{Place, kid_in}
use Rattle.lf_certificate.specs.Accepted.{AreRight, MissesFrom}
use Rattle.lf_certificate.specs.Faults.{FailsFirstFrom}
use Rattle.lf_check.specs.declared.walk.Walk.{Walk}

-- where a walk stands: what is excluded there, the way from the root, and the first of the sets that miss, of those met so far
pub record Stand : Type 0 where
  pub excluded : List Parts
  pub path : List ℕ
  pub first : Option (List Parts)

abbrev pub stand_of : {M State Note Fact : Type 0} → Walk M State Note Fact → Stand
stand_of walk = record { excluded = walk.excluded.items; path = walk.path.items; first = walk.first }

-- the first of these sets, in the order of sets, or none where there is none
abbrev pub IsFirstOf : (List Parts → Type 0) → Option (List Parts) → Type 0
IsFirstOf P found =
    MatchOption found
    ((faults : List Parts) → ¬ P faults)
    (λ first. P first × ((faults : List Parts) → P faults → set_is_before faults first ≡ false))

-- the first of these sets and of the one that was the first before, if there was one
abbrev pub Lowers : (List Parts → Type 0) → Option (List Parts) → Option (List Parts) → Type 0
Lowers P old new = IsFirstOf (λ faults. (old ≡ Some faults) ⊎ P faults) new

-- what a walk leaves that has found nothing wrong: it stands where it stood, and has met the sets that miss
pub record Passes (Missing : List Parts → Type 0) (old new : Stand) : Type 0 where
  pub excluded : new.excluded ≡ old.excluded
  pub path : new.path ≡ old.path
  pub first : Lowers Missing old.first new.first

-- what it leaves that has found something wrong: its path goes on to there
abbrev pub Stops : (List ℕ → Type 0) → Stand → Stand → Type 0
Stops Failing old new = (rest : List ℕ) × Failing rest × (new.path ≡ old.path ++ rest)

-- the i-th kid of a branch with these edges and kids, whatever its reach
abbrev pub kid_of : List Parts → List Node → List Parts → List Parts → ℕ → Option Place
kid_of edges kids faults excluded = kid_in (Node-F.Branch [] edges kids) faults excluded

-- of the kids of a branch at this depth, beneath one before another the set stands at the last depth, and its run misses
abbrev pub MissesBefore : {State Note Fact : Type 0} → World State Note Fact → Formula Fact → ℕ → ℕ → (ℕ → Option Place) → ℕ → List Parts → Type 0
MissesBefore w formula last depth kid i faults =
    (j : ℕ) × (one : Place) × (j < i) × (kid j ≡ Some one) × MissesFrom w formula last (depth + 1) one faults

module _ {State Note Fact : Type 0} (w : World State Note Fact) (b : Bounds) (formula : Formula Fact) (last depth : ℕ) where
  -- from a place on: all is right, or this fails first
  abbrev pub IsWalkFrom : Place → Stand → Stand → Option Reason → Type 0
  IsWalkFrom p old new found =
      MatchOption found
      (AreRight w b formula last depth p × Passes (MissesFrom w formula last depth p) old new)
      (λ why. Stops (FailsFirstFrom w b formula last depth p why) old new)

  module _ (kid : ℕ → Option Place) where
    -- of the kids of a branch at this depth, those before one are wholly right
    abbrev pub AreRightBefore : ℕ → Type 0
    AreRightBefore i = (j : ℕ) (one : Place) → j < i → kid j ≡ Some one → AreRight w b formula last (depth + 1) one

    -- the kids before one are wholly right, and in that one this fails first
    abbrev pub KidFails : Reason → List ℕ → Type 0
    KidFails why path =
        (i : ℕ) × (one : Place) × (rest : List ℕ) × (path ≡ i ∷ rest) × (kid i ≡ Some one) × AreRightBefore i
        × FailsFirstFrom w b formula last (depth + 1) one why rest

    -- over so many kids of a branch: all beneath them is right, or this fails first
    abbrev pub IsWalkOver : ℕ → Stand → Stand → Option Reason → Type 0
    IsWalkOver count old new found =
        MatchOption found
        (AreRightBefore count × Passes (MissesBefore w formula last depth kid count) old new)
        (λ why. Stops (KidFails why) old new)
