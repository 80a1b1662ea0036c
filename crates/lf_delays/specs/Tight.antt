-- Late notes of which none can be spared.
use Rattle.std.specs.Prelude.{◌≡◌, Bool, true, List, ◌∷◌, ◌++◌}
use Rattle.lf_delays.specs.Windows.{under}
use Rattle.lf_faults.specs.declared.fault.Parts.{Parts}
use Rattle.lf_latency.specs.declared.network.Timing.{Timing}
use Rattle.lf_latency.specs.Arrivals.{arrival_in}
use Rattle.lf_outcome.specs.declared.formula.Formula.{Formula}
use Rattle.lf_outcome.specs.Truth.{reaches}
use Rattle.lf_sim.specs.Runs.{World}
use Rattle.lf_delays.specs.declared.delay.Delay.{Delay}
use Rattle.lf_delays.specs.Delays.{delayed}
use Rattle.lf_delays.specs.Told.{told}

module _ {State Note Fact : Type 0} (timing : Timing) (w : World State Note Fact) (faults : List Parts) (formula : Formula Fact) where
  -- whether the set reaches where notes arrive as these delays say, and all others as early as they can
  abbrev pub reaches_by : List Delay → Bool
  reaches_by ds = reaches (under w (arrival_in (delayed timing ds))) faults formula

  -- with any one of them left out the set reaches
  abbrev pub AreNeeded : List Delay → Type 0
  AreNeeded ds = (before behind : List Delay) (d : Delay) → ds ≡ before ++ d ∷ behind → reaches_by (before ++ behind) ≡ true

  -- so it is with the late notes of its run
  abbrev pub IsTight : Type 0
  IsTight = AreNeeded (told w faults timing.links)
