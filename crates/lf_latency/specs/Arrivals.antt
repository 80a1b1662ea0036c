-- When a note arrives.
--
-- A slot is a sender n, a receiver m and the step t at which n sends. A note in it arrives at a step of its window,
--
--     t + least .. t + least + spread
--
-- where least and spread are those of the link from n to m. Where arrivals are chosen, they say at which. Otherwise the seed does: at
--
--     t + least + word % (spread + 1)
--
-- The word is one of the stream cipher ChaCha20: the block function of RFC 8439, with a 64-bit block counter, and a 64-bit stream number
-- in the place of the nonce. The seed is the key, the number of the link the stream, and t - 1 the
-- place in it. A place counts words of 32 bits, sixteen to a block.
use Rattle.std.specs.Prelude.{◌≡◌, ℕ, ◌+◌, ◌-◌, ◌*◌, ◌%◌, ◌<◌, ◌≤◌, List, length, Option, None, Some, slice_index, slice_set}
use Rattle.rand_chacha.specs.ChaCha.{word_at, key_of}
use Rattle.lf_latency.specs.declared.arrivals.Arrivals.{Arrivals}
use Rattle.lf_latency.specs.declared.links.Links.{Links}
use Rattle.lf_latency.specs.declared.network.Timing.{Timing}
use Rattle.lf_latency.specs.Links.{IsLinks, IsPair, least_of, spread_of, link_of}

-- the word at a place of a stream; ChaCha20 has ten double rounds
unfoldable pub word_of : List ℕ → ℕ → ℕ → ℕ
word_of seed stream place = word_at 10 (key_of seed) stream place

-- n may send to m at step t
pub record IsSlot (timing : Timing) (n m t : ℕ) : Type 0 where
  pub pair : IsPair timing.nodes n m
  pub first : 1 ≤ t
  pub last : t ≤ timing.horizon

-- the first step at which a note arrives that n sends to m at t, and the last
abbrev pub earliest : Links → ℕ → ℕ → ℕ → ℕ
earliest links n m t = t + least_of links n m

abbrev pub latest : Links → ℕ → ℕ → ℕ → ℕ
latest links n m t = t + least_of links n m + spread_of links n m

-- the step is one at which it may arrive
abbrev pub IsInWindow : Links → ℕ → ℕ → ℕ → ℕ → Type 0
IsInWindow links n m t u = (earliest links n m t ≤ u) × (u ≤ latest links n m t)

-- an assignment gives each slot a step in its window
abbrev pub IsAssignment : Timing → (ℕ → ℕ → ℕ → ℕ) → Type 0
IsAssignment timing a = (n m t : ℕ) → IsSlot timing n m t → IsInWindow timing.links n m t (a n m t)

-- n, m and t are those of a place in a table
pub record IsPlace (n m t : ℕ) : Type 0 where
  pub sender : n < 8
  pub receiver : m < 8
  pub first : 1 ≤ t
  pub last : t ≤ 48

-- the place of a slot: by sender, receiver and step, 48 steps to a receiver and 8 receivers to a sender
abbrev pub place_of : ℕ → ℕ → ℕ → ℕ
place_of n m t = (n * 8 + m) * 48 + t - 1

-- the step at which the note of a slot arrives by a table
abbrev pub arrival_in : Arrivals → ℕ → ℕ → ℕ → ℕ
arrival_in arrivals n m t = slice_index arrivals.steps (place_of n m t)

-- the same table, but that the note of one slot arrives at another step
abbrev pub with_arrival : Arrivals → ℕ → ℕ → ℕ → ℕ → Arrivals
with_arrival arrivals n m t u = record { steps = slice_set arrivals.steps (place_of n m t) u }

-- a table has all places, and of each slot a step in its window
pub record IsArrivals (timing : Timing) (arrivals : Arrivals) : Type 0 where
  pub long : length arrivals.steps ≡ 3072
  pub assigned : IsAssignment timing (arrival_in arrivals)

-- the limits of a network; arrivals that are chosen are in their windows
pub record IsTiming (timing : Timing) : Type 0 where
  pub nodes_at_least : 2 ≤ timing.nodes
  pub nodes_at_most : timing.nodes ≤ 8
  pub horizon_at_least : 1 ≤ timing.horizon
  pub horizon_at_most : timing.horizon ≤ 48
  pub links : IsLinks timing.nodes timing.links
  pub chosen : (arrivals : Arrivals) → timing.chosen ≡ Some arrivals → IsArrivals timing arrivals

-- the same network, but that notes arrive as chosen
abbrev pub choosing : Timing → Arrivals → Timing
choosing timing arrivals = record { seed = timing.seed; links = timing.links; nodes = timing.nodes; horizon = timing.horizon; chosen = Some arrivals }

-- the step that the seed picks for a note that n sends to m at step t
abbrev pub seeded : Timing → ℕ → ℕ → ℕ → ℕ
seeded timing n m t =
    t + least_of timing.links n m
    + word_of timing.seed (link_of timing.nodes n m) (t - 1) % (spread_of timing.links n m + 1)

-- the chosen steps, and others where none are chosen
abbrev pub chosen_or : (ℕ → ℕ → ℕ → ℕ) → Option Arrivals → ℕ → ℕ → ℕ → ℕ
chosen_or others None = others
chosen_or others (Some arrivals) = arrival_in arrivals

-- the step at which a note that n sends to m at step t arrives
abbrev pub arrival_of : Timing → ℕ → ℕ → ℕ → ℕ
arrival_of timing = chosen_or (seeded timing) timing.chosen
