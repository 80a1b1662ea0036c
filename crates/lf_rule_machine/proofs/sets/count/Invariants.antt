use Rattle.std.proofs.Common.{◌≡◌, ◌≤◌}
use Rattle.lf_rule_machine.specs.Sets.{has, count_below}
use Rattle.lf_rule_machine.proofs.sets.count.Given as goal

-- the nodes so far are counted
abbrev pub invariant-loop-node : goal.invariant-loop-node
invariant-loop-node l = record { counted : l.found ≡ count_below l.node (has l.set); few : l.found ≤ l.node }
