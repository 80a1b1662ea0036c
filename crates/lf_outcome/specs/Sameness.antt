-- When two scenarios are the same.
use Rattle.std.specs.Prelude.{◌≡◌}
use Rattle.lf_outcome.specs.declared.scenario.Scenario.{Scenario}

-- the same protocol, network, bounds, formula and bound on the search, by value
pub record AreSame (one other : Scenario) : Type 0 where
  pub protocol : one.setting.machine ≡ other.setting.machine
  pub network : one.setting.network ≡ other.setting.network
  pub bounds : one.setting.spec ≡ other.setting.spec
  pub formula : one.formula ≡ other.formula
  pub max_sets : one.max_sets ≡ other.max_sets
