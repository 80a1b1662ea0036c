use Rattle.std.proofs.Common.{◌≡◌, take, false}
use Rattle.std.specs.List.{list_any}
use Rattle.lf_own_scenario.specs.Zeros.{promise_divides}
use Rattle.lf_own_scenario.proofs.zeros.+promises.Given as goal

abbrev pub invariant-some_divides-parts : goal.invariant-some_divides-parts
invariant-some_divides-parts l = list_any (promise_divides l.given) (take l.part-index l.parts) ≡ false
