use Rattle.lf_mutations.proofs.Laws.{slice_get-rules_of}
use Rattle.lf_mutations.proofs.change_laws.rules_are_numbered.Goals as goal

pub returns : goal.returns
returns c = λ xs i j chain there low. slice_get-rules_of xs i j chain there low
