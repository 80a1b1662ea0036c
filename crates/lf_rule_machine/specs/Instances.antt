-- What a machine of rules is made of.
use Rattle.std.specs.Prelude.{ℕ, List, refl}
use Rattle.std.specs.Coded.{Coded, code_by, coded×, coded_ℕ, coded_list}
use Rattle.std.specs.Arc.{arc_value}
use Rattle.lf_rule_machine.specs.declared.indexed.Indexed.{Indexed}
use Rattle.lf_rules.specs.declared.topic.Topic.{Topic}
use Rattle.lf_rules.specs.declared.definition.Definition.{Definition}
use Rattle.lf_rules.specs.contracts.definition.Definition.{the_row}
use Rattle.lf_rules.specs.contracts.topic.Topic.{the_row as topic_row}

-- a protocol, how many nodes there are, the values that its constants have at each of 8 nodes, and topics by number
pub record Instance : Type 0 where
  pub definition : Definition
  pub nodes : ℕ
  pub given : List (List ℕ)
  pub topics : List Topic

-- how the logic stores one
abbrev pub instance_code : Coded Instance
instance_code =
    code_by (Definition × (ℕ × (List (List ℕ) × List Topic)))
    (coded× the_row.coded (coded× coded_ℕ (coded× (coded_list (coded_list coded_ℕ)) (coded_list topic_row.coded))))
    (λ m. (m.definition, (m.nodes, (m.given, m.topics)))) (λ p. record { definition = p.0; nodes = p.1.0; given = p.1.1.0; topics = p.1.1.1 }) (λ _. refl)

-- what one with these topics is that stands with its chains by node and event
abbrev pub instance_of : Indexed → List Topic → Instance
instance_of x topics = record { definition = arc_value x.rules; nodes = x.nodes; given = x.given; topics = topics }
