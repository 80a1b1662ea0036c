use Rattle.lf_rule_machine.proofs.PackingLemmas.{step-packets}
use Rattle.lf_rule_machine.proofs.packet_laws.packets_have_each_form_once.Goals as goal

pub returns : goal.returns
returns c = λ m node t state inbox to p sent. (step-packets m.definition m.nodes m.given node t state inbox).each to p sent
