use Rattle.std.proofs.Common.{◌≡◌, ◌≤◌, ◌++◌, length, map, string_bytes}
use Rattle.std.specs.Fmt.{decimal}
use Rattle.std.specs.List.{filter, join_with_byte, range_with_len}
use Rattle.lf_rule_machine.specs.Sets.{has}
use Rattle.lf_naming.proofs.value.push_members.Given as goal

-- the nodes so far
abbrev pub invariant-nodes : goal.invariant-nodes
invariant-nodes l = record {
  few : l.place ≤ l.node-counter;
  counted : length (filter (has l.set) (range_with_len 0 l.node-counter)) ≡ l.place;
  told : string_bytes l.text
      ≡ string_bytes l.initial.text ++ join_with_byte 44 (map decimal (filter (has l.set) (range_with_len 0 l.node-counter)));
}
