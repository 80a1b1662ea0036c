use Rattle.lf_taken.proofs.ReadingsLemmas.{told-acts}
use Rattle.lf_taken.proofs.readings.told_rules_are_done.Goals as goal

pub returns : goal.returns
returns c = λ d at event turn. told-acts d at event turn
