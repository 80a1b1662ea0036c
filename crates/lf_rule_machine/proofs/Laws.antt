-- What crates above may build on, in the words of specs/.
use Rattle.std.proofs.Common.{◌≡◌, true}
use Rattle.std.specs.List.{fold}
use Rattle.lf_sim.specs.declared.out.Stepped.{Stepped}
use Rattle.lf_rules.specs.declared.rule.Event.{Event}
use Rattle.lf_rules.specs.declared.definition.Definition.{Definition}
use Rattle.lf_rule_machine.specs.Moments.{Moment, given_here}
use Rattle.lf_rules.specs.Forms.{is_well_formed}
use Rattle.lf_rule_machine.specs.declared.state.State.{State}
use Rattle.lf_rule_machine.specs.declared.state.Packet.{Packet}
use Rattle.lf_rule_machine.specs.Events.{act}
use Rattle.lf_rule_machine.specs.Choices.{chosen, take_at}
use Rattle.lf_rule_machine.specs.Ranges.{IsInRange}
use Rattle.lf_rule_machine.proofs.ChoicesLemmas as choices
use Rattle.lf_rule_machine.proofs.RangesLemmas as ranges

-- what a node does at an event is what it does with the chains that it goes through at it
pub chosen-acts : (d : Definition) (at : Moment) (event : Event) (turn : Stepped State Packet)
    → fold (take_at d at) turn (chosen d at.nodes at.me (given_here at) event) ≡ act d at event turn
chosen-acts = choices.chosen-acts

-- where a definition is well formed, no event takes a cell's value past the greatest of its kind
pub act-ranged : (d : Definition) (at : Moment) (event : Event) (turn : Stepped State Packet) → is_well_formed d ≡ true → IsInRange d turn.state
    → IsInRange d (act d at event turn).state
act-ranged = ranges.act-ranged
