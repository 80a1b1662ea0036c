-- Which sets of faults are allowed, the next of them, and the first with a property.
use Rattle.std.specs.Prelude.{◌≡◌, ◌≢◌, ℕ, ◌<◌, ◌≤◌, Bool, true, false, ◌==◌, List, [], ◌∷◌, length, Option, MatchOption}
use Rattle.std.specs.List.{AllByRecursion, Contains, count_by}
use Rattle.lf_faults.specs.declared.fault.Parts.{Parts}
use Rattle.lf_faults.specs.declared.fault.Parts.TheVariants.{Omit, Crash, Pause}
use Rattle.lf_faults.specs.Faults.{IsAscending, inserted, set_is_before}
-- how many nodes and steps there are, and what bounds the faults: its fields are `nodes`, `horizon`, `last_omission`,
-- `crashes`, `budget`, `pauses` and `pause_length`, which is how many steps a pause takes
pub use Rattle.lf_faults.specs.declared.spec.Bounds.{Bounds}

-- bounds with no pauses, of length 1
abbrev pub without_pauses : ℕ → ℕ → ℕ → ℕ → ℕ → Bounds
without_pauses nodes horizon last_omission crashes budget =
    record { nodes = nodes; horizon = horizon; last_omission = last_omission; crashes = crashes; budget = budget; pauses = 0; pause_length = 1 }

-- the limits of a scenario
pub record IsInLimits (b : Bounds) : Type 0 where
  pub nodes : (2 ≤ b.nodes) × (b.nodes ≤ 8)
  pub horizon : (1 ≤ b.horizon) × (b.horizon ≤ 48)
  pub last_omission : b.last_omission < b.horizon
  pub crashes : b.crashes ≤ b.nodes
  pub budget : b.budget ≤ 6
  pub pauses : b.pauses ≤ b.nodes
  pub pause_length : (1 ≤ b.pause_length) × (b.pause_length ≤ 8)

-- a fault of the scenario: its nodes are there, its step is one of the run, an omission comes early enough
abbrev pub IsAdmitted : Bounds → Parts → Type 0
IsAdmitted b (Omit from to step) = (from < b.nodes) × (to < b.nodes) × (from ≢ to) × (1 ≤ step) × (step ≤ b.last_omission)
IsAdmitted b (Crash node step) = (node < b.nodes) × (1 ≤ step) × (step ≤ b.horizon)
IsAdmitted b (Pause node step) = (node < b.nodes) × (1 ≤ step) × (step ≤ b.horizon)

abbrev pub is_omission : Parts → Bool
is_omission (Omit from to step) = true
is_omission (Crash node step) = false
is_omission (Pause node step) = false

abbrev pub is_crash : Parts → Bool
is_crash (Omit from to step) = false
is_crash (Crash node step) = true
is_crash (Pause node step) = false

abbrev pub is_pause : Parts → Bool
is_pause (Omit from to step) = false
is_pause (Crash node step) = false
is_pause (Pause node step) = true

abbrev pub is_crash_of : ℕ → Parts → Bool
is_crash_of n (Omit from to step) = false
is_crash_of n (Crash node step) = n == node
is_crash_of n (Pause node step) = false

abbrev pub is_pause_of : ℕ → Parts → Bool
is_pause_of n (Omit from to step) = false
is_pause_of n (Crash node step) = false
is_pause_of n (Pause node step) = n == node

-- the set is allowed: faults of the scenario, at most one crash and one pause of each node, and not too many
pub record IsAllowed (b : Bounds) (faults : List Parts) : Type 0 where
  pub ascending : IsAscending faults
  pub admitted : AllByRecursion (IsAdmitted b) faults
  pub crash_once : (n : ℕ) → n < b.nodes → count_by (is_crash_of n) faults ≤ 1
  pub pause_once : (n : ℕ) → n < b.nodes → count_by (is_pause_of n) faults ≤ 1
  pub crashes : count_by is_crash faults ≤ b.crashes
  pub pauses : count_by is_pause faults ≤ b.pauses
  pub budget : length faults ≤ b.budget

-- the fault may be added: it isn't there, and the set with it is allowed
abbrev pub CanAdd : Bounds → List Parts → Parts → Type 0
CanAdd b faults f = (¬ (Contains faults f)) × IsAllowed b (inserted f faults)

-- the bounds on crashes and pauses leave room for the fault
abbrev pub HasRoom : Bounds → List Parts → Parts → Type 0
HasRoom b faults (Omit from to step) = Unit {0}
HasRoom b faults (Crash node step) = (count_by (is_crash_of node) faults ≡ 0) × (count_by is_crash faults < b.crashes)
HasRoom b faults (Pause node step) = (count_by (is_pause_of node) faults ≡ 0) × (count_by is_pause faults < b.pauses)

-- each fault of the one set is in the other
abbrev pub IsSubset : List Parts → List Parts → Type 0
IsSubset fs gs = (f : Parts) → Contains fs f → Contains gs f

-- the next allowed set: allowed, after this one, and no allowed set lies between
pub record IsNext (b : Bounds) (faults next : List Parts) : Type 0 where
  pub allowed : IsAllowed b next
  pub after : set_is_before faults next ≡ true
  pub least : (other : List Parts) → IsAllowed b other → set_is_before faults other ≡ true → set_is_before other next ≡ false

-- no allowed set comes after this one
abbrev pub IsLast : Bounds → List Parts → Type 0
IsLast b faults = (other : List Parts) → IsAllowed b other → set_is_before faults other ≡ false

-- the first allowed set with the property, in the order of sets, or none where no allowed set has it
abbrev pub IsFirst : Bounds → (List Parts → Bool) → Option (List Parts) → Type 0
IsFirst b misses answer =
    MatchOption answer
    ((other : List Parts) → IsAllowed b other → misses other ≡ false)
    (λ found. IsAllowed b found × (misses found ≡ true) × ((other : List Parts) → IsAllowed b other → misses other ≡ true → set_is_before other found ≡ false))

-- the sets that follow `here` one by one, each the next allowed set, until none is left
abbrev pub IsWalkFrom : Bounds → List Parts → List (List Parts) → Type 0
IsWalkFrom b here [] = IsLast b here
IsWalkFrom b here (next ∷ rest) = IsNext b here next × IsWalkFrom b next rest

-- each set comes before those after it
abbrev pub AreAscending : List (List Parts) → Type 0
AreAscending [] = Unit {0}
AreAscending (s ∷ ss) = AllByRecursion (λ t. set_is_before s t ≡ true) ss × AreAscending ss

-- the sets are the allowed ones, each once, in order
pub record IsEnumeration (b : Bounds) (sets : List (List Parts)) : Type 0 where
  pub complete : (s : List Parts) → IsAllowed b s → Contains sets s
  pub sound : (s : List Parts) → Contains sets s → IsAllowed b s
  pub ascending : AreAscending sets
