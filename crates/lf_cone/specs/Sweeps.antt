-- How a reach grows, step by step. This page is about inner functions.
use Rattle.std.specs.Prelude.{◌≡◌, ◌≢◌, ◌⊎◌, ℕ, ◌+◌, ◌<◌, ◌≤◌, List, length, slice_index, slice_index_or}
use Rattle.std.specs.List.{Contains}
use Rattle.lf_faults.specs.declared.fault.Parts.{Parts}
use Rattle.lf_sim.specs.Runs.{World}
use Rattle.lf_outcome.specs.declared.point.Point.{Point}
use Rattle.lf_outcome.specs.Reaches.{IsReachOf}
use Rattle.lf_cone.specs.Cones.{IsAtMost, CanHear}

-- each n is raised to the steps t of P n t, and to no others
pub record IsRaised (P : ℕ → ℕ → Type 0) (before after : List ℕ) : Type 0 where
  pub count : length after ≡ length before
  pub keeps : IsAtMost before after
  pub takes : (n t : ℕ) → P n t → t ≤ slice_index after n
  pub only : (n : ℕ) → (slice_index after n ≡ slice_index before n) ⊎ P n (slice_index after n)

-- some of the first has it
abbrev pub SomeBelow : (ℕ → ℕ → ℕ → Type 0) → ℕ → ℕ → ℕ → Type 0
SomeBelow Q b n t = (k : ℕ) × (k < b) × Q k n t

-- by what m at v rests on: n at t
module _ (RestsOn : ℕ → ℕ → ℕ → ℕ → Type 0) where
  -- what is within the reach rests on what is within it
  abbrev pub KeepsTo : List ℕ → Type 0
  KeepsTo reach = (n t m v : ℕ) → RestsOn n t m v → v ≤ slice_index reach m → t ≤ slice_index reach n

  -- what m at step v, within the reach, rests on
  abbrev pub RestsAt : List ℕ → ℕ → ℕ → ℕ → ℕ → Type 0
  RestsAt reach v m n t = (v ≤ slice_index reach m) × RestsOn n t m v

  -- something within the reach rests on k at step s
  abbrev pub IsDone : List ℕ → ℕ → ℕ → ℕ → ℕ → Type 0
  IsDone reach s k n t = (n ≡ k) × (t ≡ s) × (m : ℕ) × (v : ℕ) × (v ≤ slice_index reach m) × RestsOn k s m v

  -- the least reach of those that keep to themselves and have the start in them
  pub record IsLeastFrom (nodes horizon : ℕ) (start reach : List ℕ) : Type 0 where
    pub form : IsReachOf nodes horizon reach
    pub keeps : KeepsTo reach
    pub covers : IsAtMost start reach
    pub smallest : (other : List ℕ) → IsReachOf nodes horizon other → KeepsTo other → IsAtMost start other → IsAtMost reach other

  -- the same, so far as steps after u go
  pub record IsSweptTo (nodes horizon : ℕ) (start : List ℕ) (u : ℕ) (reach : List ℕ) : Type 0 where
    pub form : IsReachOf nodes horizon reach
    pub keeps : (n t m v : ℕ) → u < v → RestsOn n t m v → v ≤ slice_index reach m → t ≤ slice_index reach n
    pub covers : IsAtMost start reach
    pub smallest : (other : List ℕ) → IsReachOf nodes horizon other → KeepsTo other → IsAtMost start other → IsAtMost reach other

  -- the same, so far as what is done after step u goes
  pub record IsSweptFrom (nodes horizon : ℕ) (start : List ℕ) (u : ℕ) (reach : List ℕ) : Type 0 where
    pub form : IsReachOf nodes horizon reach
    pub keeps : (n t m v : ℕ) → u < t → RestsOn n t m v → v ≤ slice_index reach m → t ≤ slice_index reach n
    pub covers : IsAtMost start reach
    pub smallest : (other : List ℕ) → IsReachOf nodes horizon other → KeepsTo other → IsAtMost start other → IsAtMost reach other

-- that another node may know of n at t, where a note takes the least delay
abbrev pub RestsByLeast : ℕ → (ℕ → ℕ → ℕ) → ℕ → ℕ → ℕ → ℕ → Type 0
RestsByLeast nodes least n t m v = (n < nodes) × (m < nodes) × (n ≢ m) × (t + least n m ≡ v)

-- the same, of one receiver and sender
abbrev pub RestsByOne : ℕ → (ℕ → ℕ → ℕ) → ℕ → ℕ → ℕ → ℕ → ℕ → Type 0
RestsByOne nodes least m v from n t = (n ≡ from) × RestsByLeast nodes least n t m v

-- the point at a place
abbrev pub PointAt : List Point → ℕ → ℕ → ℕ → Type 0
PointAt points k n t = ((slice_index_or points k (record { node = 0; step = 0 })).node ≡ n) × ((slice_index_or points k
    (record { node = 0; step = 0 })).step ≡ t)

-- the points are of these nodes, and of steps up to this one
abbrev pub AreInside : ℕ → ℕ → List Point → Type 0
AreInside nodes last points = (p : Point) → Contains points p → (p.node < nodes) × (p.step ≤ last)

-- m hears by `last` what n does at t
abbrev pub HearsBy : {State Note Fact : Type 0} → World State Note Fact → List Parts → ℕ → ℕ → ℕ → ℕ → Type 0
HearsBy w faults last n t m = (u : ℕ) × (u ≤ last) × CanHear w faults n t m u
