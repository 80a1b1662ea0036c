-- What a search finds, whoever makes it and in whatever order: its levels, where they are too full, and all least sets.
use Rattle.std.specs.Prelude.{◌≡◌, ◌↔◌, ℕ, ◌<◌, ◌≤◌, true, false, List, [], ◌∷◌, length, Some}
use Rattle.std.specs.List.{Contains, AllByRecursion}
use Rattle.lf_faults.specs.declared.fault.Parts.{Parts}
use Rattle.lf_faults.specs.declared.spec.Bounds.{Bounds}
use Rattle.lf_faults.specs.Allowed.{IsAllowed}
use Rattle.lf_faults.specs.Faults.{set_is_before}
use Rattle.lf_sim.specs.Runs.{World}
use Rattle.lf_outcome.specs.declared.formula.Formula.{Formula}
use Rattle.lf_outcome.specs.Truth.{reaches}
use Rattle.lf_cone.specs.Cones.{AreRequired}
use Rattle.lf_certificate.specs.Grown.{IsReachFor}
use Rattle.lf_marks.specs.Counting.{IsCount}
use Rattle.lf_certificate.specs.Tasks.{Task, root_task, kid_task}

-- the sets stand in order, each before all that follow
abbrev pub AreAscending : List (List Parts) → Type 0
AreAscending [] = Unit {0}
AreAscending (faults ∷ rest) = AllByRecursion (λ other. set_is_before faults other ≡ true) rest × AreAscending rest

module _ {State Note Fact : Type 0} (w : World State Note Fact) (b : Bounds) (formula : Formula Fact) where
  -- a task grows into another along a path: each set on the way reaches, and has a kid for each edge that is required within the sharp
  -- reach of what the outcome rests on
  abbrev pub Grows : Task → List ℕ → Task → Type 0
  Grows t [] u = t ≡ u
  Grows t (i ∷ path) u =
      (reach : List ℕ) × (edges : List Parts) × (kid : Task) × IsReachFor w b formula t.faults reach
      × AreRequired w t.faults b reach t.excluded edges × (kid_task t edges i ≡ Some kid) × Grows kid path u

  -- so many sets of k faults grow
  abbrev pub IsLevelSize : ℕ → ℕ → Type 0
  IsLevelSize k = IsCount (λ path. (length path ≡ k) × (u : Task) × Grows root_task path u)

  -- level k is the first with more sets than may be kept, so many, and every allowed set with fewer than k faults reaches
  pub record IsFullAt (most k count : ℕ) : Type 0 where
    pub within : k ≤ b.budget
    pub size : IsLevelSize k count
    pub many : most < count
    pub fits : (j n : ℕ) → j < k → IsLevelSize j n → n ≤ most
    pub reaching : (faults : List Parts) → IsAllowed b faults → length faults < k → reaches w faults formula ≡ true

  -- the set is allowed and misses, and so does none with fewer faults
  pub record IsLeastSet (faults : List Parts) : Type 0 where
    pub allowed : IsAllowed b faults
    pub misses : reaches w faults formula ≡ false
    pub fewest : (other : List Parts) → IsAllowed b other → reaches w other formula ≡ false → length faults ≤ length other

  -- all least sets, in order, each once
  pub record AreAllLeast (sets : List (List Parts)) : Type 0 where
    pub ascending : AreAscending sets
    pub each : (faults : List Parts) → Contains sets faults ↔ IsLeastSet faults
