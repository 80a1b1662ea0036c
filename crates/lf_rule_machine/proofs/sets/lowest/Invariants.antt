use Rattle.std.proofs.Common.{◌≡◌, ℕ, ◌<◌, false}
use Rattle.lf_rule_machine.specs.Sets.{has}
use Rattle.lf_rule_machine.proofs.sets.lowest.Given as goal

-- none of the nodes so far is in the set
abbrev pub invariant-loop-node : goal.invariant-loop-node
invariant-loop-node l = (k : ℕ) → k < l.node → has l.set k ≡ false
