-- What is known of the scenario that is searched has one proof.
use Rattle.std.specs.Prelude.{◌≡◌, List, Option}
use Rattle.std.specs.Coded.{Coded, Coded-set, coded_option, Π_prop}
use Rattle.std.specs.List.{All}
use Rattle.lf_outcome.specs.declared.scenario.Scenario.{Scenario}
use Rattle.lf_outcome.specs.contracts.scenario.Scenario as scenario
use Rattle.lf_work.specs.declared.spent.Spent.{Spent}
use Rattle.lf_pool.specs.Holds.{IsLeftIn}

searched_code : Coded (Option Scenario)
searched_code = coded_option scenario.the_row.coded

pub searched-prop : (searched other : Option Scenario) → IsProp (searched ≡ other)
searched-prop searched other = Coded-set searched_code searched other

pub left-prop : (searched : Option Scenario) (spent : List Spent) → IsProp (All (IsLeftIn searched) spent)
left-prop searched spent = Π_prop (λ k. Π_prop (λ d. Π_prop (λ few. searched-prop searched _)))
