-- The answer over every delay.
use Rattle.std.specs.Prelude.{◌≡◌, ◌≤◌, ℕ, Bool, true, false, List, Option, None, MatchOption, not}
use Rattle.lf_faults.specs.declared.fault.Parts.{Parts}
use Rattle.lf_faults.specs.declared.spec.Bounds.{Bounds}
use Rattle.lf_faults.specs.Faults.{set_is_before}
use Rattle.lf_faults.specs.Allowed.{IsAllowed}
use Rattle.lf_latency.specs.declared.network.Timing.{Timing}
use Rattle.lf_latency.specs.Links.{IsPair, spread_of}
use Rattle.lf_outcome.specs.declared.formula.Formula.{Formula}
use Rattle.lf_outcome.specs.Truth.{reaches}
use Rattle.lf_sim.specs.Runs.{World}
use Rattle.lf_latency.specs.declared.arrivals.Arrivals.{Arrivals}
use Rattle.lf_latency.specs.Arrivals.{IsAssignment, IsArrivals, arrival_in}
use Rattle.lf_delays.specs.Windows.{under}

-- the world has the nodes and the last step of the network
pub record IsOn {State Note Fact : Type 0} (timing : Timing) (w : World State Note Fact) : Type 0 where
  pub nodes : w.rules.nodes ≡ timing.nodes
  pub horizon : w.horizon ≡ timing.horizon
  pub eight : timing.nodes ≤ 8
  pub short : timing.horizon ≤ 48

-- the first allowed set that misses under some assignment, in the order of sets, with an assignment under which it does: each allowed set
-- before it reaches under every assignment; none where every allowed set reaches under every assignment
abbrev pub IsFirstUnder : {State Note Fact : Type 0} → Timing → Bounds → World State Note Fact → Formula Fact → Option (List Parts × Arrivals) → Type 0
IsFirstUnder timing b w formula answer =
    MatchOption answer
    ((a : ℕ → ℕ → ℕ → ℕ) (faults : List Parts) → IsAssignment timing a → IsAllowed b faults → reaches (under w a) faults formula ≡ true)
    (λ found. IsAllowed b found.0 × IsArrivals timing found.1 × (reaches (under w (arrival_in found.1)) found.0 formula ≡ false)
    × ((a : ℕ → ℕ → ℕ → ℕ) (faults : List Parts) → IsAssignment timing a → IsAllowed b faults → set_is_before faults found.0 ≡ true
    → reaches (under w a) faults formula ≡ true))

-- each note arrives at the one step at which it can
abbrev pub HasNoSpread : Timing → Type 0
HasNoSpread timing = (n m : ℕ) → IsPair timing.nodes n m → spread_of timing.links n m ≡ 0

-- the same network by a seed alone
abbrev pub with_seed : Timing → List ℕ → Timing
with_seed timing seed = record { seed = seed; links = timing.links; nodes = timing.nodes; horizon = timing.horizon; chosen = None }

-- there is an answer, and the set doesn't come before it
abbrev pub IsNotBefore : List Parts → Option (List Parts × Arrivals) → Type 0
IsNotBefore faults answer = MatchOption answer ⊥ (λ found. set_is_before faults found.0 ≡ false)

-- whether a set misses by a table
abbrev pub misses_by : {State Note Fact : Type 0} → World State Note Fact → Formula Fact → Arrivals → List Parts → Bool
misses_by w formula arrivals faults = not (reaches (under w (arrival_in arrivals)) faults formula)

-- whether it misses in a world
abbrev pub misses_in : {State Note Fact : Type 0} → World State Note Fact → Formula Fact → List Parts → Bool
misses_in w formula faults = not (reaches w faults formula)
