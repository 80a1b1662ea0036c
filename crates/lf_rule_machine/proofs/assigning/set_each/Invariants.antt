use Rattle.std.proofs.Common.{◌≡◌}
use Rattle.std.specs.Prelude.{slice_get}
use Rattle.std.specs.List.{fold, range_with_len}
use Rattle.lf_rule_machine.specs.Moments.{seen}
use Rattle.lf_rule_machine.specs.Events.{set_member}
use Rattle.lf_rule_machine.proofs.assigning.set_each.Given as goal

-- the state after the cells of the nodes so far
abbrev pub invariant-loop-node : goal.invariant-loop-node
invariant-loop-node l =
    l.state
    ≡ fold (set_member l.definition (seen l.at) l.set l.table (slice_get l.definition.variables l.table.of) l.value) l.initial.state
    (range_with_len 0 l.node)
