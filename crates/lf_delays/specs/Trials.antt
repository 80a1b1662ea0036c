-- Scenarios in which notes arrive somehow, and delays by which a set misses.
use Rattle.std.specs.Prelude.{◌≡◌, ℕ, ◌+◌, ◌<◌, ◌≤◌, Bool, true, false, List, ◌++◌, length, take, drop}
use Rattle.lf_delays.specs.Windows.{under}
use Rattle.lf_delays.specs.declared.delay.Delay.{Delay}
use Rattle.lf_delays.specs.Delays.{AreDelays}
use Rattle.lf_delays.specs.Tight.{IsTight, reaches_by}
use Rattle.lf_faults.specs.declared.fault.Parts.{Parts}
use Rattle.lf_latency.specs.declared.arrivals.Arrivals.{Arrivals}
use Rattle.lf_latency.specs.Arrivals.{arrival_in}
use Rattle.lf_outcome.specs.Truth.{reaches}
use Rattle.lf_outcome.specs.declared.scenario.Scenario.{Scenario}
use Rattle.lf_sim.specs.Settings.{world_of}

-- the other scenario is the same, but for when notes arrive and how many sets a search keeps
pub record IsLike (s other : Scenario) : Type 0 where
  pub machine : other.setting.machine ≡ s.setting.machine
  pub spec : other.setting.spec ≡ s.setting.spec
  pub formula : other.formula ≡ s.formula
  pub nodes : other.setting.network.nodes ≡ s.setting.network.nodes
  pub horizon : other.setting.network.horizon ≡ s.setting.network.horizon
  pub links : other.setting.network.links ≡ s.setting.network.links

-- the set misses the scenario's outcome where notes arrive so
abbrev pub MissesBy : Scenario → List Parts → Arrivals → Type 0
MissesBy s set arrivals = reaches (under (world_of s.setting) (arrival_in arrivals)) set s.formula ≡ false

-- and no late note of its run can be spared
abbrev pub IsTightBy : Scenario → List Parts → Arrivals → Type 0
IsTightBy s set arrivals = IsTight s.setting.network (under (world_of s.setting) (arrival_in arrivals)) set s.formula

-- whether the set reaches where notes arrive as delays say
abbrev pub reaches_where : Scenario → List Parts → List Delay → Bool
reaches_where s set = reaches_by s.setting.network (world_of s.setting) set s.formula

-- these are delays of the scenario by which the set misses
pub record AreLeft (s : Scenario) (set : List Parts) (ds : List Delay) : Type 0 where
  pub are : AreDelays s.setting.network ds
  pub misses : reaches_where s set ds ≡ false

-- without any one of them from a place on the set reaches
abbrev pub NoneSpared : Scenario → List Parts → List Delay → ℕ → Type 0
NoneSpared s set ds from = (k : ℕ) → from ≤ k → k < length ds → reaches_where s set (take k ds ++ drop (k + 1) ds) ≡ true
