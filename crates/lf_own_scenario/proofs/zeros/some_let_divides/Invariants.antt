use Rattle.std.proofs.Common.{◌≡◌, take, false}
use Rattle.std.specs.List.{list_any}
use Rattle.lf_own_scenario.specs.Zeros.{let_divides}
use Rattle.lf_own_scenario.proofs.zeros.some_let_divides.Given as goal

abbrev pub invariant-nameds : goal.invariant-nameds
invariant-nameds l = list_any (let_divides l.given) (take l.named-index l.nameds) ≡ false
