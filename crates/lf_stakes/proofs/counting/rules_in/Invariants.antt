use Rattle.std.proofs.Common.{◌≡◌, take}
use Rattle.lf_rules.specs.Forms.{rules_in}
use Rattle.lf_stakes.proofs.counting.rules_in.Given as goal

-- the rules of the chains so far
abbrev pub invariant-loop-chain : goal.invariant-loop-chain
invariant-loop-chain l = l.rules ≡ rules_in (take l.chain-index l.chains)
