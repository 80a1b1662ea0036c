use Rattle.lf_rule_machine.proofs.OneFormLemmas.{one-form}
use Rattle.lf_rule_machine.proofs.single_laws.one_form_sends_single_notes.Goals as goal

pub returns : goal.returns
returns c = one-form
