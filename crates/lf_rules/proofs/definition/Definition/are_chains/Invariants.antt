use Rattle.std.proofs.Common.{◌≡◌, take, true}
use Rattle.std.specs.List.{list_all}
use Rattle.lf_rules.specs.Forms.{is_chain}
use Rattle.lf_rules.proofs.definition.Definition.are_chains.Given as goal

-- those so far pass
abbrev pub invariant-loop-chain : goal.invariant-loop-chain
invariant-loop-chain l = list_all (is_chain l.self) (take l.chain-index l.self.chains) ≡ true
