-- What follows from the rule of arrivals.
use Rattle.std.proofs.Common.{◌≡◌, ℕ, ◌+◌, ◌<◌, ◌≤◌, List, length, sym, refl, arith}
use Rattle.std.specs.Prelude.{Option, None, Some}
use Rattle.lf_latency.specs.declared.arrivals.Arrivals.{Arrivals}
use Rattle.lf_latency.specs.declared.network.Timing.{Timing}
use Rattle.lf_latency.specs.Links.{least_of, spread_of}
use Rattle.lf_latency.specs.Arrivals.{IsTiming, IsSlot, IsInWindow, IsAssignment, IsArrivals, IsPlace, earliest}
use Rattle.lf_latency.specs.Arrivals.{arrival_in, with_arrival, seeded, chosen_or, arrival_of}
use Rattle.lf_latency.specs.Table.{arrivals_by}
use Rattle.lf_latency.proofs.Places as places

-- The arrivals of the seed are in their windows,
pub seeded_assigned : (timing : Timing) → IsAssignment timing (seeded timing)
seeded_assigned timing n m t slot = (omega arith, omega arith)

chosen_assigned : (timing : Timing) (chosen : Option Arrivals) → timing.chosen ≡ chosen → IsTiming timing
    → IsAssignment timing (chosen_or (seeded timing) chosen)
chosen_assigned timing None is limits = seeded_assigned timing
chosen_assigned timing (Some arrivals) is limits = (limits.chosen arrivals is).assigned

-- and so are those of each network
pub arrivals_assigned : (timing : Timing) → IsTiming timing → IsAssignment timing (arrival_of timing)
arrivals_assigned timing limits = chosen_assigned timing timing.chosen refl limits

-- a note takes at least the least delay
pub arrival-late : (timing : Timing) (n m t : ℕ) → IsTiming timing → IsSlot timing n m t → t + least_of timing.links n m ≤ arrival_of timing n m t
arrival-late timing n m t limits slot = (arrivals_assigned timing limits n m t slot).0

-- and at most the spread more
pub arrival-soon : (timing : Timing) (n m t : ℕ) → IsTiming timing → IsSlot timing n m t
    → arrival_of timing n m t ≤ t + least_of timing.links n m + spread_of timing.links n m
arrival-soon timing n m t limits slot = (arrivals_assigned timing limits n m t slot).1

-- a note arrives after the step at which it is sent
pub arrival-later : (timing : Timing) (n m t : ℕ) → IsTiming timing → IsSlot timing n m t →
    t < arrival_of timing n m t
arrival-later timing n m t limits slot =
    let low : n < 8 = omega (arith, limits.nodes_at_most, slot.pair.sender) in
    let high : m < 8 = omega (arith, limits.nodes_at_most, slot.pair.receiver) in
    let late = arrival-late timing n m t limits slot in
    omega (arith, late, limits.links.least_at_least n m low high)

-- and within 31 steps
pub arrival-within : (timing : Timing) (n m t : ℕ) → IsTiming timing → IsSlot timing n m t →
    arrival_of timing n m t ≤ t + 31
arrival-within timing n m t limits slot =
    let low : n < 8 = omega (arith, limits.nodes_at_most, slot.pair.sender) in
    let high : m < 8 = omega (arith, limits.nodes_at_most, slot.pair.receiver) in
    let soon = arrival-soon timing n m t limits slot in
    omega (arith, soon, limits.links.least_at_most n m low high, limits.links.spread_at_most n m low high)

-- A slot of a network of at most 8 nodes and 48 steps has a place in a table;
pub slot_place : (timing : Timing) (n m t : ℕ) → timing.nodes ≤ 8 → timing.horizon ≤ 48 → IsSlot timing n m t → IsPlace n m t
slot_place = places.slot_place

-- its step is what it was changed to,
pub arrival-there : (arrivals : Arrivals) (n m t u : ℕ) → length arrivals.steps ≡ 3072 → IsPlace n m t
    → arrival_in (with_arrival arrivals n m t u) n m t ≡ u
arrival-there = places.arrival-there

-- and those of the others stay
pub arrival-elsewhere : (arrivals : Arrivals) (n m t u i j s : ℕ) → IsPlace n m t → IsPlace i j s → ((i ≡ n) × (j ≡ m) × (s ≡ t) → ⊥)
    → arrival_in (with_arrival arrivals n m t u) i j s ≡ arrival_in arrivals i j s
arrival-elsewhere = places.arrival-elsewhere

-- The table of an assignment has its steps, and is one
pub table_at : (timing : Timing) (a : ℕ → ℕ → ℕ → ℕ) (n m t : ℕ) → timing.nodes ≤ 8 → timing.horizon ≤ 48 → IsSlot timing n m t
    → arrival_in (arrivals_by timing a) n m t ≡ a n m t
table_at = places.table_at

pub table_is : (timing : Timing) (a : ℕ → ℕ → ℕ → ℕ) → timing.nodes ≤ 8 → timing.horizon ≤ 48 → IsAssignment timing a → IsArrivals timing (arrivals_by timing a)
table_is = places.table_is

-- Each note as early as it can be is an assignment
pub earliest_is : (timing : Timing) → IsAssignment timing (earliest timing.links)
earliest_is = places.earliest_is
