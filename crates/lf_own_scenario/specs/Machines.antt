-- The protocol of a file in a scenario.
use Rattle.std.specs.Prelude.{ℕ, List}
use Rattle.lf_rules.specs.declared.definition.Given.{Given}
use Rattle.lf_rules.specs.declared.topic.Topic.{Topic}
use Rattle.lf_rule_machine.specs.Constants.{given_table}
use Rattle.lf_protocols.specs.declared.protocol.Kind.{Kind}
use Rattle.lf_protocols.specs.declared.protocol.Kind.TheVariants as kinds
use Rattle.lf_protocol_file.specs.declared.declared.Declared.{Declared}

-- the protocol among so many nodes, with these values of its constants and with topics. That they fit is proved of all that are read
abbrev pub kind_of : Declared → ℕ → List Given → List Topic → Kind
kind_of file nodes given topics =
    kinds.Ruled (record { definition = file.definition; nodes = nodes; given = given_table nodes given; topics = topics })

-- a protocol with these topics in place of its own, if it is one of rules
abbrev pub with_topics : Kind → List Topic → Kind
with_topics (kinds.Ruled m) topics = kinds.Ruled (record { definition = m.definition; nodes = m.nodes; given = m.given; topics = topics })
with_topics other topics = other
