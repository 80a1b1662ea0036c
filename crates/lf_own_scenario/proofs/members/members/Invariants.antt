use Rattle.std.proofs.Common.{◌≡◌, filter}
use Rattle.std.specs.List.{range_with_len}
use Rattle.lf_own_scenario.specs.Members.{is_in}
use Rattle.lf_own_scenario.proofs.members.members.Given as goal

abbrev pub invariant-loop-node : goal.invariant-loop-node
invariant-loop-node l = l.nodes.items ≡ filter (is_in l.scene l.of) (range_with_len 0 l.node)
