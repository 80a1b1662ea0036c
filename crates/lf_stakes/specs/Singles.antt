-- The allowed sets with at most one fault.
use Rattle.std.specs.Prelude.{◌≡◌, ◌≤◌, false, List, [], length, Some, slice_get}
use Rattle.std.specs.List.{Contains}
use Rattle.lf_faults.specs.declared.fault.Parts.{Parts}
use Rattle.lf_faults.specs.Faults.{set_is_before}
use Rattle.lf_faults.specs.declared.spec.Bounds.{Bounds}
use Rattle.lf_faults.specs.Allowed.{AreAscending, IsAllowed}

-- the set is allowed, and has no more than one fault
pub record IsSingle (b : Bounds) (faults : List Parts) : Type 0 where
  pub allowed : IsAllowed b faults
  pub few : length faults ≤ 1

-- the sets are those, each once, in the order of sets, and the first of them has no fault
pub record AreSingles (b : Bounds) (sets : List (List Parts)) : Type 0 where
  pub complete : (faults : List Parts) → IsSingle b faults → Contains sets faults
  pub sound : (faults : List Parts) → Contains sets faults → IsSingle b faults
  pub ascending : AreAscending sets
  pub first : slice_get sets 0 ≡ Some []

-- none of them comes after this one
abbrev pub IsLastSingle : Bounds → List Parts → Type 0
IsLastSingle b here = (other : List Parts) → IsSingle b other → set_is_before here other ≡ false
