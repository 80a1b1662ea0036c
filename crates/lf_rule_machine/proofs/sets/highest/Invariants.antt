use Rattle.std.proofs.Common.{◌≡◌, ◌≤◌}
use Rattle.std.specs.Prelude.{◌⊎◌}
use Rattle.lf_rule_machine.specs.Sets.{has, last_below}
use Rattle.lf_rule_machine.proofs.sets.highest.Given as goal

-- the last of the nodes so far
abbrev pub invariant-loop-node : goal.invariant-loop-node
invariant-loop-node l = record { last : l.found ≡ last_below l.node (has l.set) l.nodes; low : (l.found ≤ 7) ⊎ (l.found ≡ l.nodes) }
