use Rattle.std.proofs.Common.{◌≡◌, take, false}
use Rattle.std.specs.List.{list_any}
use Rattle.lf_own_scenario.specs.Zeros.{divides_by_zero}
use Rattle.lf_own_scenario.proofs.zeros.some_value_divides.Given as goal

abbrev pub invariant-values : goal.invariant-values
invariant-values l = list_any (divides_by_zero l.given) (take l.value-index l.values) ≡ false
