use Rattle.std.proofs.Common.{◌≡◌, take, false}
use Rattle.std.specs.List.{list_any}
use Rattle.lf_own_scenario.specs.Zeros.{chain_divides}
use Rattle.lf_own_scenario.proofs.zeros.some_chain_divides.Given as goal

abbrev pub invariant-chains : goal.invariant-chains
invariant-chains l = list_any (chain_divides l.given) (take l.chain-index l.chains) ≡ false
