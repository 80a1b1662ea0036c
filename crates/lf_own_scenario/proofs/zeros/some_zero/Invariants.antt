use Rattle.std.proofs.Common.{◌≡◌, take, false}
use Rattle.std.specs.List.{list_any}
use Rattle.lf_own_scenario.specs.Zeros.{is_zero}
use Rattle.lf_own_scenario.proofs.zeros.some_zero.Given as goal

abbrev pub invariant-values : goal.invariant-values
invariant-values l = list_any is_zero (take l.value-index l.values) ≡ false
