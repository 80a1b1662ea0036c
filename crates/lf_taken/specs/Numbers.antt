-- Which rules a node takes at an event, by their numbers: from 1, chain by chain, in the order in which they are written.
use Rattle.std.specs.Prelude.{ℕ, ◌+◌, if◌then◌else◌, List, [], ◌∷◌, ◌++◌, take, Option, None, Some, slice_get}
use Rattle.std.specs.Option.{option_to_list}
use Rattle.lf_sim.specs.declared.out.Stepped.{Stepped}
use Rattle.lf_rules.specs.declared.rule.Event.{Event}
use Rattle.lf_rules.specs.declared.rule.Rule.{Rule}
use Rattle.lf_rules.specs.declared.rule.Chain.{Chain}
use Rattle.lf_rules.specs.declared.definition.Definition.{Definition}
use Rattle.lf_rules.specs.Forms.{rules_in}
use Rattle.lf_rule_machine.specs.Moments.{Moment, given_here}
use Rattle.lf_rule_machine.specs.declared.state.State.{State}
use Rattle.lf_rule_machine.specs.declared.state.Packet.{Packet}
use Rattle.lf_rule_machine.specs.Sets.{is_true}
use Rattle.lf_rule_machine.specs.Values.{value_of}
use Rattle.lf_rule_machine.specs.Choices.{chosen, take_at}

-- the number of the first rule of a chain that isn't of an earlier one
abbrev pub first_number : Definition → ℕ → ℕ
first_number d i = rules_in (take i d.chains) + 1

module _ (d : Definition) (at : Moment) where
  -- the number of the first rule whose guard is true, where these are numbered from k on
  abbrev pub number_true : State → ℕ → List Rule → Option ℕ
  number_true s k [] = None
  number_true s k (rule ∷ rules) = if is_true (value_of d at s rule.guard) then Some k else number_true s (k + 1) rules

  -- the rule that is taken of a chain that is gone through, by the chain's number
  abbrev pub taken_of : Stepped State Packet → ℕ → Option Chain → List ℕ
  taken_of turn i None = []
  taken_of turn i (Some chain) = option_to_list (number_true turn.state (first_number d i) chain.rules)

  abbrev pub taken_at : Stepped State Packet → ℕ → List ℕ
  taken_at turn i = taken_of turn i (slice_get d.chains i)

  -- the rules that are taken of chains that are gone through in order
  abbrev pub taken_through : Stepped State Packet → List ℕ → List ℕ
  taken_through turn [] = []
  taken_through turn (i ∷ is) = taken_at turn i ++ taken_through (take_at d at turn i) is

  -- the rules that are taken at an event
  unfoldable pub taken_in : Event → Stepped State Packet → List ℕ
  taken_in event turn = taken_through turn (chosen d at.nodes at.me (given_here at) event)
