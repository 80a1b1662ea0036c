use Rattle.lf_rule_machine.proofs.SingleRunsLemmas.{kept-single}
use Rattle.lf_rule_machine.proofs.single_laws.kept_notes_are_single.Goals as goal

pub returns : goal.returns
returns c = kept-single
