use Rattle.lf_rule_machine.proofs.FoldsLemmas.{take-flagged}
use Rattle.lf_rule_machine.proofs.event_laws.chains_by_what_was_taken.Goals as goal

pub returns : goal.returns
returns c = λ d at turn rules. take-flagged d at turn rules
