use Rattle.std.proofs.Common.{◌≡◌, take, false}
use Rattle.std.specs.List.{list_any}
use Rattle.lf_own_scenario.specs.Zeros.{fact_divides}
use Rattle.lf_own_scenario.proofs.zeros.some_fact_divides.Given as goal

abbrev pub invariant-facts : goal.invariant-facts
invariant-facts l = list_any (fact_divides l.given) (take l.fact-index l.facts) ≡ false
