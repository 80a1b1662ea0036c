-- What stands at the places of a table.
use Rattle.std.proofs.Common.{◌≡◌, ◌≢◌, ℕ, ◌+◌, ◌-◌, ◌*◌, ◌/◌, ◌%◌, ◌<◌, ◌≤◌, slice_index, List, length, slice_set, ◌∙◌, ap, arith}
use Rattle.std.proofs.lemmas.Bool.Decides.{nat_tests}
use Rattle.std.proofs.lemmas.List.{get_or-set_same, get_or-set_other, length-set}
use Rattle.std.proofs.lemmas.List.Edits.{fill_by_more}
use Rattle.std.proofs.lemmas.List.FromFn.{get_or-map-range_with_len, length-map-range_with_len, fill_by_all}
use Rattle.lf_latency.specs.declared.arrivals.Arrivals.{Arrivals}
use Rattle.lf_latency.specs.declared.network.Timing.{Timing}
use Rattle.lf_latency.specs.Arrivals.{IsTiming, IsSlot, IsPlace, place_of, arrival_in, with_arrival, IsArrivals, IsAssignment, earliest, arrival_of}
use Rattle.lf_latency.specs.Table.{entry_of, table_by, arrivals_by, table_of, IsTable}

-- the entry at a place
abbrev pub entry_at : Timing → (ℕ → ℕ → ℕ → ℕ) → ℕ → ℕ
entry_at timing a k = entry_of timing a (k / 384) (k / 48 % 8) (k % 48 + 1)

-- the places below k have their entries
pub record IsFilled (timing : Timing) (a : ℕ → ℕ → ℕ → ℕ) (steps : List ℕ) (k : ℕ) : Type 0 where
  pub long : length steps ≡ 3072
  pub below : (j : ℕ) → j < k → slice_index steps j ≡ entry_at timing a j

pub filled_more : (timing : Timing) (a : ℕ → ℕ → ℕ → ℕ) (steps : List ℕ) (k x : ℕ) → IsFilled timing a steps k → k < 3072 → x ≡ entry_at timing a k
    → IsFilled timing a (slice_set steps k x) (k + 1)
filled_more timing a steps k x filled inside entry =
    let long : length steps ≡ 3072 = filled.long in
    let place : k < length steps = omega arith in
    record {
      long = length-set steps k x ∙ long;
      below = rw entry (fill_by_more (entry_at timing a) steps k 0 place filled.below);
    }

pub filled_all : (timing : Timing) (a : ℕ → ℕ → ℕ → ℕ) (steps : List ℕ) (k : ℕ) → IsFilled timing a steps k → 3072 ≤ k → steps ≡ table_by timing a
unfolding table_by
filled_all timing a steps k filled all =
    fill_by_all (entry_at timing a) steps 3072 0 filled.long (λ j inside. filled.below j (omega arith))

entry-slot : (timing : Timing) (a : ℕ → ℕ → ℕ → ℕ) (n m t : ℕ) → IsSlot timing n m t → entry_of timing a n m t ≡ a n m t
entry-slot timing a n m t slot =
    let sender : n < timing.nodes = slot.pair.sender in
    let receiver : m < timing.nodes = slot.pair.receiver in
    let apart : n ≢ m = slot.pair.apart in
    let last : t ≤ timing.horizon = slot.last in
    grind (arith, nat_tests)

entry_along : (timing : Timing) (a : ℕ → ℕ → ℕ → ℕ) (n m t x y z : ℕ) → x ≡ n → y ≡ m → z ≡ t → entry_of timing a x y z ≡ entry_of timing a n m t
entry_along timing a n m t x y z sender receiver step = cc

-- a slot has a place
pub slot_place : (timing : Timing) (n m t : ℕ) → timing.nodes ≤ 8 → timing.horizon ≤ 48 → IsSlot timing n m t → IsPlace n m t
slot_place timing n m t eight short slot = record {
  sender = omega (arith, eight, slot.pair.sender);
  receiver = omega (arith, eight, slot.pair.receiver);
  first = slot.first;
  last = omega (arith, short, slot.last);
}

-- the table has the assignment's steps
pub table_at : (timing : Timing) (a : ℕ → ℕ → ℕ → ℕ) (n m t : ℕ) → timing.nodes ≤ 8 → timing.horizon ≤ 48 → IsSlot timing n m t
    → arrival_in (arrivals_by timing a) n m t ≡ a n m t
unfolding table_by
table_at timing a n m t eight short slot =
    let place = slot_place timing n m t eight short slot in
    let low : n < 8 = place.sender in
    let high : m < 8 = place.receiver in
    let last : t ≤ 48 = place.last in
    let first : 1 ≤ t = place.first in
    let inside : (n * 8 + m) * 48 + t - 1 < 3072 = omega arith in
    let sender : ((n * 8 + m) * 48 + t - 1) / 384 ≡ n = omega arith in
    let receiver : ((n * 8 + m) * 48 + t - 1) / 48 % 8 ≡ m = omega arith in
    let step : ((n * 8 + m) * 48 + t - 1) % 48 + 1 ≡ t = omega arith in
    get_or-map-range_with_len (entry_at timing a) 0 3072 ((n * 8 + m) * 48 + t - 1) ((n * 8 + m) * 48 + t - 1) 0 inside (omega arith)
    ∙ entry_along timing a n m t _ _ _ sender receiver step
    ∙ entry-slot timing a n m t slot

pub table_long : (timing : Timing) (a : ℕ → ℕ → ℕ → ℕ) → length (arrivals_by timing a).steps ≡ 3072
unfolding table_by
table_long timing a = length-map-range_with_len (entry_at timing a) 0 3072

-- so the table of an assignment is one
pub table_is : (timing : Timing) (a : ℕ → ℕ → ℕ → ℕ) → timing.nodes ≤ 8 → timing.horizon ≤ 48 → IsAssignment timing a → IsArrivals timing (arrivals_by timing a)
table_is timing a eight short assigned = record {
  long = table_long timing a;
  assigned = λ n m t slot.
      let is = table_at timing a n m t eight short slot in
      let window = assigned n m t slot in
      let low = window.0 in
      let high = window.1 in
      (omega (arith, is, low), omega (arith, is, high));
}

pub earliest_is : (timing : Timing) → IsAssignment timing (earliest timing.links)
earliest_is timing n m t slot = (omega arith, omega arith)

-- places of different slots are different
places_apart : (n m t i j s : ℕ) → IsPlace n m t → IsPlace i j s → place_of n m t ≡ place_of i j s → (n ≡ i) × (m ≡ j) × (t ≡ s)
places_apart n m t i j s one two e =
    let a = one.sender in
    let b = one.receiver in
    let c = one.first in
    let d = one.last in
    let p = two.sender in
    let q = two.receiver in
    let r = two.first in
    let u = two.last in
    (omega (arith, a, b, c, d, p, q, r, u, e), omega (arith, a, b, c, d, p, q, r, u, e), omega (arith, a, b, c, d, p, q, r, u, e))

place_inside : (n m t : ℕ) → IsPlace n m t → place_of n m t < 3072
place_inside n m t place =
    let a = place.sender in
    let b = place.receiver in
    let c = place.first in
    let d = place.last in
    omega (arith, a, b, c, d)

-- a slot's step is what it was changed to,
pub arrival-there : (arrivals : Arrivals) (n m t u : ℕ) → length arrivals.steps ≡ 3072 → IsPlace n m t
    → arrival_in (with_arrival arrivals n m t u) n m t ≡ u
arrival-there arrivals n m t u long place =
    let inside = place_inside n m t place in
    get_or-set_same arrivals.steps (place_of n m t) u 0 (omega (arith, inside, long))

-- and the others' stay
pub arrival-elsewhere : (arrivals : Arrivals) (n m t u i j s : ℕ) → IsPlace n m t → IsPlace i j s → ((i ≡ n) × (j ≡ m) × (s ≡ t) → ⊥)
    → arrival_in (with_arrival arrivals n m t u) i j s ≡ arrival_in arrivals i j s
arrival-elsewhere arrivals n m t u i j s place other apart =
    get_or-set_other arrivals.steps (place_of n m t) (place_of i j s) u 0 (λ e. apart (places_apart i j s n m t other place e))

-- so a network's table has the arrivals at the places of slots
pub IsTable-place : (timing : Timing) (arrivals : List ℕ) (n m t : ℕ) (place : ℕ) → IsTable timing arrivals → IsSlot timing n m t
    → place ≡ (n * 8 + m) * 48 + t - 1
    → slice_index arrivals place ≡ arrival_of timing n m t
IsTable-place timing arrivals n m t place table slot is =
    ap (λ k. slice_index arrivals k) is
    ∙ ap (λ xs. slice_index xs ((n * 8 + m) * 48 + t - 1)) table.whole
    ∙ table_at timing (arrival_of timing) n m t table.limits.nodes_at_most table.limits.horizon_at_most slot
