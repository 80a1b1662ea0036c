use Rattle.std.proofs.Common.{◌≡◌, take, false}
use Rattle.std.specs.List.{list_any}
use Rattle.lf_own_scenario.specs.Zeros.{set_divides}
use Rattle.lf_own_scenario.proofs.zeros.some_set_divides.Given as goal

abbrev pub invariant-sets : goal.invariant-sets
invariant-sets l = list_any (set_divides l.given) (take l.set-index l.sets) ≡ false
