use Rattle.lf_rule_machine.proofs.PacketsLemmas.{lost-packet, packet-notes, put-packet}
use Rattle.lf_rule_machine.proofs.packet_laws.packets_are_lists.Goals as goal

pub returns-clause-notes : goal.returns-clause-notes
returns-clause-notes c = λ xs few. packet-notes xs

pub returns-clause-put : goal.returns-clause-put
returns-clause-put c = λ xs note few forms. put-packet note xs few forms

pub returns-clause-lost : goal.returns-clause-lost
returns-clause-lost c = λ xs note few forms. lost-packet note xs few forms
