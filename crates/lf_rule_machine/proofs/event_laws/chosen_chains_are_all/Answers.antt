use Rattle.lf_rule_machine.proofs.ChoicesLemmas.{chosen-acts}
use Rattle.lf_rule_machine.proofs.event_laws.chosen_chains_are_all.Goals as goal

pub returns : goal.returns
returns c = λ d at event turn. chosen-acts d at event turn
