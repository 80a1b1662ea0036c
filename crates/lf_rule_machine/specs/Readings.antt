-- The same meaning, read otherwise.
use Rattle.std.specs.Prelude.{Bool, true, false, not, ◌&&◌, if◌then◌else◌}
use Rattle.lf_sim.specs.declared.out.Stepped.{Stepped}
use Rattle.lf_rules.specs.declared.rule.Rule.{Rule}
use Rattle.lf_rules.specs.declared.definition.Definition.{Definition}
use Rattle.lf_rule_machine.specs.Moments.{Moment}
use Rattle.lf_rule_machine.specs.declared.state.State.{State}
use Rattle.lf_rule_machine.specs.declared.state.Packet.{Packet}
use Rattle.lf_rule_machine.specs.Sets.{is_true}
use Rattle.lf_rule_machine.specs.Values.{value_of}
use Rattle.lf_rule_machine.specs.Events.{do_rule}

-- what a node comes to within a chain, and whether a rule of it was taken at this event
pub record Chained : Type 0 where
  pub turn : Stepped State Packet
  pub taken : Bool

abbrev pub untaken : Stepped State Packet → Chained
untaken turn = record { turn = turn; taken = false }

-- a rule is taken where its guard is true and no rule of its chain was taken
abbrev pub flagged : Definition → Moment → Chained → Rule → Chained
flagged d at so_far rule =
    if not so_far.taken && is_true (value_of d at so_far.turn.state rule.guard)
    then record { turn = do_rule d at so_far.turn rule; taken = true }
    else so_far
