-- Rules that are done by their numbers.
use Rattle.std.specs.Prelude.{ℕ, zero, suc, List, [], ◌∷◌, ◌++◌, slice_get}
use Rattle.lf_sim.specs.declared.out.Stepped.{Stepped}
use Rattle.lf_rules.specs.declared.rule.Rule.{Rule}
use Rattle.lf_rules.specs.declared.rule.Chain.{Chain}
use Rattle.lf_rules.specs.declared.definition.Definition.{Definition}
use Rattle.lf_rule_machine.specs.Moments.{Moment}
use Rattle.lf_rule_machine.specs.declared.state.State.{State}
use Rattle.lf_rule_machine.specs.declared.state.Packet.{Packet}
use Rattle.lf_rule_machine.specs.Events.{do_found}

-- the rules of all chains, in order
abbrev pub all_rules : List Chain → List Rule
all_rules [] = []
all_rules (x ∷ xs) = x.rules ++ all_rules xs

-- what a node comes to with the rule that has a number, from 1 on
abbrev pub do_number : Definition → Moment → Stepped State Packet → ℕ → Stepped State Packet
do_number d at turn zero = turn
do_number d at turn (suc k) = do_found d at turn (slice_get (all_rules d.chains) k)
