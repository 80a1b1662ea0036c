-- What of a run an outcome can depend on, and which faults could change that.
--
-- A reach has a last step for each node. What is up and known up to these steps is decided by what is heard within them.
use Rattle.std.specs.Prelude.{◌≡◌, ◌≢◌, ◌↔◌, ℕ, ◌+◌, ◌<◌, ◌≤◌, true, false, List, slice_index, IsSome}
use Rattle.std.specs.List.{Contains}
use Rattle.lf_faults.specs.declared.fault.Parts.{Parts}
use Rattle.lf_faults.specs.declared.fault.Parts.TheVariants.{Omit, Crash, Pause}
use Rattle.lf_faults.specs.Faults.{set_omits, IsAscending}
use Rattle.lf_faults.specs.declared.spec.Bounds.{Bounds}
use Rattle.lf_faults.specs.Allowed.{IsSubset, CanAdd}
use Rattle.lf_sim.specs.Runs.{World, is_up, view, sent}
use Rattle.lf_outcome.specs.declared.point.Point.{Point}
use Rattle.lf_outcome.specs.Evidence.{Covers}
use Rattle.lf_outcome.specs.Reaches.{IsReachOf}

-- at each node the one reach is at most the other
abbrev pub IsAtMost : List ℕ → List ℕ → Type 0
IsAtMost reach other = (n : ℕ) → slice_index reach n ≤ slice_index other n

-- what a node knows within the reach can be known by the others within it, where a note from n to m takes `least n m` steps or more
abbrev pub KeepsLeast : ℕ → (ℕ → ℕ → ℕ) → List ℕ → Type 0
KeepsLeast nodes least reach = (n m : ℕ) → n < nodes → m < nodes → n ≢ m → slice_index reach m ≤ slice_index reach n + least n m

-- the least such reach that covers the points
pub record IsCone (nodes horizon : ℕ) (least : ℕ → ℕ → ℕ) (points : List Point) (reach : List ℕ) : Type 0 where
  pub form : IsReachOf nodes horizon reach
  pub keeps : KeepsLeast nodes least reach
  pub covers : Covers reach points
  pub smallest : (other : List ℕ) → IsReachOf nodes horizon other → KeepsLeast nodes least other → Covers other points → IsAtMost reach other

module _ {State Note Fact : Type 0} (w : World State Note Fact) (faults : List Parts) where
  -- m can hear at u what n does at t: n is up at t, a note from it to m would come at u and isn't lost, and m is up at u
  pub record CanHear (n t m u : ℕ) : Type 0 where
    pub apart : n ≢ m
    pub sends : is_up w faults n t ≡ true
    pub arrives : w.arrival n m t ≡ u
    pub kept : set_omits faults n m t ≡ false
    pub hears : is_up w faults m u ≡ true

  -- m hears it within the reach
  abbrev pub IsHeard : List ℕ → ℕ → ℕ → ℕ → Type 0
  IsHeard reach n t m = (u : ℕ) × (u ≤ slice_index reach m) × CanHear n t m u

  -- what is heard within the reach was done within it, also where nothing is sent: that nothing comes is heard too
  pub record IsClosed (reach : List ℕ) : Type 0 where
    pub form : IsReachOf w.rules.nodes w.horizon reach
    pub each : (n t m : ℕ) → IsHeard reach n t m → t ≤ slice_index reach n

  -- the least closed reach that covers the points
  pub record IsSharp (points : List Point) (reach : List ℕ) : Type 0 where
    pub closed : IsClosed reach
    pub covers : Covers reach points
    pub smallest : (other : List ℕ) → IsClosed other → Covers other points → IsAtMost reach other

  -- n is up at t, within the reach
  abbrev pub IsLive : List ℕ → ℕ → ℕ → Type 0
  IsLive reach n t = (is_up w faults n t ≡ true) × (t ≤ slice_index reach n)

  -- the fault could change what is within the reach: it loses a note that is heard there, or takes out a point there at which a node is up
  abbrev pub Supports : List ℕ → Parts → Type 0
  Supports reach (Omit n m t) = IsSome (sent w faults n m t) × IsHeard reach n t m
  Supports reach (Crash n c) = (t : ℕ) × (c ≤ t) × IsLive reach n t
  Supports reach (Pause n s) = (t : ℕ) × (s ≤ t) × (t < s + w.pause_length) × IsLive reach n t

  -- the wider set has the faults, and no other fault that could change what is within the reach
  pub record IsOutside (reach : List ℕ) (wider : List Parts) : Type 0 where
    pub keeps : IsSubset faults wider
    pub adds : (f : Parts) → Contains wider f → Supports reach f → Contains faults f

  -- within the reach the wider set leaves up what was up, with the same views
  abbrev pub AgreesWithin : List ℕ → List Parts → Type 0
  AgreesWithin reach wider = (n t : ℕ) → IsLive reach n t → (is_up w wider n t ≡ true) × (view w wider n t ≡ view w faults n t)

  -- the fault is to be tried: it could change what is within the reach, it may be added, and it isn't excluded
  pub record IsRequired (b : Bounds) (reach : List ℕ) (excluded : List Parts) (f : Parts) : Type 0 where
    pub supports : Supports reach f
    pub allowed : CanAdd b faults f
    pub included : ¬ Contains excluded f

  -- the required edges: the faults that are to be tried, in order
  pub record AreRequired (b : Bounds) (reach : List ℕ) (excluded edges : List Parts) : Type 0 where
    pub ascending : IsAscending edges
    pub each : (f : Parts) → Contains edges f ↔ IsRequired b reach excluded f
