-- The places of faults in their order, and how a list of them is gathered place by place. This page is about inner functions.
use Rattle.std.specs.Prelude.{◌≡◌, ◌↔◌, ℕ, ◌+◌, ◌-◌, ◌*◌, ◌/◌, ◌%◌, ◌<◌, ◌≤◌, Bool, true, false, List, slice_index_or, slice_index, min, IsSome}
use Rattle.std.specs.Int.{bit_at}
use Rattle.std.specs.List.{Contains}
use Rattle.lf_faults.specs.declared.fault.Parts.{Parts}
use Rattle.lf_faults.specs.declared.fault.Parts.TheVariants.{Omit, Crash, Pause}
use Rattle.lf_faults.specs.Faults.{IsFault, IsAscending, step_of}
use Rattle.lf_faults.specs.declared.spec.Bounds.{Bounds}
use Rattle.lf_faults.specs.Allowed.{CanAdd}
use Rattle.lf_sim.specs.Runs.{World, sent}
use Rattle.lf_cone.specs.Cones.{IsLive}

-- The places of faults stand in rows of eight. A step has ten rows: one for each of 8 senders, with the losses of what it sends,
-- by receiver, then one of crashes and one of pauses, by node.
abbrev pub first_row : ℕ → ℕ
first_row step = (step - 1) * 10

abbrev pub sender_row : ℕ → ℕ → ℕ
sender_row from step = first_row step + from

abbrev pub crash_row : ℕ → ℕ
crash_row step = first_row step + 8

abbrev pub pause_row : ℕ → ℕ
pause_row step = first_row step + 9

abbrev pub place_at : ℕ → ℕ → ℕ
place_at row column = row * 8 + column

-- the row of a fault among those of its step, and its place in the row
abbrev pub row_in_step : Parts → ℕ
row_in_step (Omit from to step) = from
row_in_step (Crash node step) = 8
row_in_step (Pause node step) = 9

abbrev pub column_of : Parts → ℕ
column_of (Omit from to step) = to
column_of (Crash node step) = node
column_of (Pause node step) = node

-- its place among all faults
abbrev pub place_of : Parts → ℕ
place_of f = place_at (first_row (step_of f) + row_in_step f) (column_of f)

-- the list holds, in order, the faults with the property that stand before a place
pub record IsGathered (P : Parts → Type 0) (place : ℕ) (faults : List Parts) : Type 0 where
  pub ascending : IsAscending faults
  pub members : (f : Parts) → Contains faults f ↔ (P f × (place_of f < place))

-- the bit at a place is set, of a table of rows of eight bits
abbrev pub IsMarked : List ℕ → ℕ → Type 0
IsMarked rows place = bit_at (slice_index rows (place / 8)) (place % 8) ≡ 1

-- the bits that are set are those at the places of the list's faults
abbrev pub AreMarks : List Parts → List ℕ → Type 0
AreMarks faults rows = (f : Parts) → IsFault f → (IsMarked rows (place_of f) ↔ Contains faults f)

-- by node, the last step within a reach that is at most the horizon
abbrev pub AreEnds : List ℕ → ℕ → List ℕ → Type 0
AreEnds reach horizon ends = (n : ℕ) → n < 8 → slice_index ends n ≡ min (slice_index reach n) horizon

-- by receiver, whether a note to it was sent by `from` at t
abbrev pub AreSent : {State Note Fact : Type 0} → World State Note Fact → List Parts → ℕ → ℕ → ℕ → Type 0
AreSent w faults from t bits = (to : ℕ) → to < 8 → ((bit_at bits to ≡ 1) ↔ IsSome (sent w faults from to t))

-- the same, where the loss of the note isn't marked
abbrev pub AreOpen : {State Note Fact : Type 0} → World State Note Fact → List Parts → List ℕ → ℕ → ℕ → ℕ → Type 0
AreOpen w faults rows from t bits =
    (to : ℕ) → to < 8 → ((bit_at bits to ≡ 1) ↔ (IsSome (sent w faults from to t) × ¬ IsMarked rows (place_at (sender_row from t) to)))

-- by node, whether a crash of it may be added, and whether a pause may
pub record IsRoom (b : Bounds) (faults : List Parts) (crashes pauses : List Bool) : Type 0 where
  pub crash : (n : ℕ) → n < b.nodes → ((slice_index_or crashes n false ≡ true) ↔ CanAdd b faults (Crash n 1))
  pub pause : (n : ℕ) → n < b.nodes → ((slice_index_or pauses n false ≡ true) ↔ CanAdd b faults (Pause n 1))

-- n is up at a step within the reach, from one step on and before another
abbrev pub LivesBetween : {State Note Fact : Type 0} → World State Note Fact → List Parts → List ℕ → ℕ → ℕ → ℕ → Type 0
LivesBetween w faults reach n first end = (t : ℕ) × (first ≤ t) × (t < end) × IsLive w faults reach n t
