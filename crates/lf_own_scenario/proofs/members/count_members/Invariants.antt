use Rattle.std.proofs.Common.{◌≡◌, ◌≤◌, filter, length}
use Rattle.std.specs.List.{range_with_len}
use Rattle.lf_own_scenario.specs.Members.{is_in}
use Rattle.lf_own_scenario.proofs.members.count_members.Given as goal

abbrev pub invariant-loop-node : goal.invariant-loop-node
invariant-loop-node l = record {
  counted : l.count ≡ length (filter (is_in l.scene l.of) (range_with_len 0 l.node));
  within : l.count ≤ l.node;
}
