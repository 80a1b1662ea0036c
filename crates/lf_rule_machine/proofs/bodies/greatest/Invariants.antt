use Rattle.std.proofs.Common.{◌≡◌, slice_index}
use Rattle.lf_rule_machine.specs.Bodies.{is_member, greatest_below}
use Rattle.lf_rule_machine.proofs.bodies.greatest.Given as goal

-- what comes of the nodes so far
abbrev pub invariant-loop-node : goal.invariant-loop-node
invariant-loop-node l = l.found ≡ greatest_below l.node (is_member l.nodes l.set) (slice_index l.values)
