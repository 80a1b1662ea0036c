use Rattle.lf_mutations.proofs.Laws.{mutated-formed}
use Rattle.lf_mutations.proofs.change_laws.mutations_are_well_formed.Goals as goal

pub returns : goal.returns
returns c = λ d e m formed made. mutated-formed d e m formed made
