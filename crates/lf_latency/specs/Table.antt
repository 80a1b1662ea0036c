-- The arrivals at all slots, as a table.
use Rattle.std.specs.Prelude.{◌≡◌, ℕ, ◌+◌, ◌/◌, ◌%◌, ◌&&◌, nat_le, if◌then◌else◌, List, map}
use Rattle.std.specs.List.{range_with_len}
use Rattle.lf_latency.specs.declared.arrivals.Arrivals.{Arrivals}
use Rattle.lf_latency.specs.declared.network.Timing.{Timing}
use Rattle.lf_latency.specs.Arrivals.{arrival_of, earliest, IsTiming}
use Rattle.lf_latency.specs.Links.{is_pair}

-- what stands at a place: of a slot its step, and 0 elsewhere; t is at least 1
abbrev pub entry_of : Timing → (ℕ → ℕ → ℕ → ℕ) → ℕ → ℕ → ℕ → ℕ
entry_of timing a n m t = if is_pair timing.nodes n m && nat_le t timing.horizon then a n m t else 0

-- the table of an assignment, by sender, receiver and step: 48 steps to a receiver, and 8 receivers to a sender
unfoldable pub table_by : Timing → (ℕ → ℕ → ℕ → ℕ) → List ℕ
table_by timing a = map (λ k. entry_of timing a (k / 384) (k / 48 % 8) (k % 48 + 1)) (range_with_len 0 3072)

abbrev pub arrivals_by : Timing → (ℕ → ℕ → ℕ → ℕ) → Arrivals
arrivals_by timing a = record { steps = table_by timing a }

-- each note arrives as early as it can
abbrev pub earliest_arrivals : Timing → Arrivals
earliest_arrivals timing = arrivals_by timing (earliest timing.links)

-- the table of a network
abbrev pub table_of : Timing → List ℕ
table_of timing = table_by timing (arrival_of timing)

-- a network's timing is within the limits, and its table has the arrivals
pub record IsTable (timing : Timing) (arrivals : List ℕ) : Type 0 where
  pub limits : IsTiming timing
  pub whole : arrivals ≡ table_of timing
