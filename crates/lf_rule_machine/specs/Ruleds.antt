-- A protocol of rules as the simulator's rules.
use Rattle.lf_sim.specs.Machines.{Rules}
use Rattle.lf_rule_machine.specs.Instances.{Instance}
use Rattle.lf_rule_machine.specs.declared.state.State.{State}
use Rattle.lf_rule_machine.specs.declared.state.Packet.{Packet}
use Rattle.lf_rule_machine.specs.declared.fact.Fact.{Fact}
use Rattle.lf_rule_machine.specs.Machines.{rules_by}

abbrev pub rules_of : Instance → Rules State Packet Fact
rules_of m = rules_by m.definition m.nodes m.given m.topics
