use Rattle.std.proofs.Common.{◌≡◌, min, take}
use Rattle.lf_rules.specs.Forms.{rules_in}
use Rattle.lf_rules.proofs.forms.rules_in.Given as goal

-- the rules of the chains so far are counted
abbrev pub invariant-loop-chain : goal.invariant-loop-chain
invariant-loop-chain l = l.count ≡ min (rules_in (take l.chain-index l.chains)) 18446744073709551615
