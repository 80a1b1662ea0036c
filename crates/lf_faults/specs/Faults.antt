-- What a fault is, what it does to a run, and the orders of faults and of sets of faults.
-- Omissions and crashes under one logical clock are the failures of lineage-driven fault injection (SIGMOD 2015); pauses and the orders are this project's.
use Rattle.std.specs.Prelude.{◌≡◌, ◌≢◌, ℕ, ◌+◌, ◌<◌, ◌≤◌, Bool, true, false, ◌&&◌, ◌==◌, nat_lt, nat_le, List, [], ◌∷◌, length, if◌then◌else◌}
use Rattle.std.specs.List.{list_any, AllByRecursion}
use Rattle.std.specs.declared.cmp.Ordering.{Ordering}
use Rattle.std.specs.Ordering.{nat_cmp, ordering_then, is_lt}
use Rattle.std.specs.Cmp.Lexicographic.{slice_cmp}
use Rattle.lf_faults.specs.declared.fault.Parts.{Parts}
use Rattle.lf_faults.specs.declared.fault.Parts.TheVariants.{Omit, Crash, Pause}

-- its numbers are in the ranges that a fault can have: nodes 0 to 7, steps 1 to 48, and an omission is between two nodes
abbrev pub IsFault : Parts → Type 0
IsFault (Omit from to step) = (from < 8) × (to < 8) × (from ≢ to) × (1 ≤ step) × (step ≤ 48)
IsFault (Crash node step) = (node < 8) × (1 ≤ step) × (step ≤ 48)
IsFault (Pause node step) = (node < 8) × (1 ≤ step) × (step ≤ 48)

-- the fault loses the note of the slot (n,m,t)
abbrev pub omits : ℕ → ℕ → ℕ → Parts → Bool
omits n m t (Omit from to step) = (n == from) && (m == to) && (t == step)
omits n m t (Crash node step) = false
omits n m t (Pause node step) = false

-- the fault is a crash of n at t or before: n takes no step from the crash on
abbrev pub crashes : ℕ → ℕ → Parts → Bool
crashes n t (Omit from to step) = false
crashes n t (Crash node step) = (n == node) && nat_le step t
crashes n t (Pause node step) = false

-- the fault is a pause of n over t: it lasts `length` steps, its own the first
abbrev pub pauses : ℕ → ℕ → ℕ → Parts → Bool
pauses length n t (Omit from to step) = false
pauses length n t (Crash node step) = false
pauses length n t (Pause node step) = (n == node) && nat_le step t && nat_lt t (step + length)

-- the fault is a pause of n after which t is the first step
abbrev pub wakes : ℕ → ℕ → ℕ → Parts → Bool
wakes length n t (Omit from to step) = false
wakes length n t (Crash node step) = false
wakes length n t (Pause node step) = (n == node) && (t == step + length)

-- some fault of the set does
abbrev pub set_omits : List Parts → ℕ → ℕ → ℕ → Bool
set_omits faults n m t = list_any (omits n m t) faults

abbrev pub set_crashes : List Parts → ℕ → ℕ → Bool
set_crashes faults n t = list_any (crashes n t) faults

abbrev pub set_pauses : ℕ → List Parts → ℕ → ℕ → Bool
set_pauses length faults n t = list_any (pauses length n t) faults

abbrev pub set_wakes : ℕ → List Parts → ℕ → ℕ → Bool
set_wakes length faults n t = list_any (wakes length n t) faults

-- the order of faults: by step, then omissions before crashes before pauses, then by sender or node, then by receiver
abbrev pub step_of : Parts → ℕ
step_of (Omit from to step) = step
step_of (Crash node step) = step
step_of (Pause node step) = step

abbrev pub rank_of : Parts → ℕ
rank_of (Omit from to step) = 0
rank_of (Crash node step) = 1
rank_of (Pause node step) = 2

abbrev pub node_of : Parts → ℕ
node_of (Omit from to step) = from
node_of (Crash node step) = node
node_of (Pause node step) = node

abbrev pub receiver_of : Parts → ℕ
receiver_of (Omit from to step) = to
receiver_of (Crash node step) = 0
receiver_of (Pause node step) = 0

abbrev pub fault_cmp : Parts → Parts → Ordering
fault_cmp f g =
    ordering_then (nat_cmp (step_of f) (step_of g))
    (ordering_then (nat_cmp (rank_of f) (rank_of g))
    (ordering_then (nat_cmp (node_of f) (node_of g)) (nat_cmp (receiver_of f) (receiver_of g))))

abbrev pub is_before : Parts → Parts → Bool
is_before f g = is_lt (fault_cmp f g)

-- a set of faults is its ascending list: each fault comes before those after it, so none is there twice
abbrev pub IsAscending : List Parts → Type 0
IsAscending [] = Unit {0}
IsAscending (f ∷ fs) = AllByRecursion (λ g. is_before f g ≡ true) fs × IsAscending fs

-- the ascending list with one fault more, at its place
abbrev pub inserted : Parts → List Parts → List Parts
inserted f [] = f ∷ []
inserted f (g ∷ gs) = if is_before g f then g ∷ inserted f gs else f ∷ g ∷ gs

-- the order of sets: fewer faults first, and sets of one size by their ascending lists
abbrev pub set_cmp : List Parts → List Parts → Ordering
set_cmp fs gs = ordering_then (nat_cmp (length fs) (length gs)) (slice_cmp fault_cmp fs gs)

abbrev pub set_is_before : List Parts → List Parts → Bool
set_is_before fs gs = is_lt (set_cmp fs gs)
