use Rattle.lf_rule_machine.proofs.SinglesLemmas.{step-single}
use Rattle.lf_rule_machine.proofs.single_laws.steps_with_single_notes.Goals as goal

pub returns : goal.returns
returns c = λ m node t state inbox. step-single m.definition m.nodes m.given node t state inbox
