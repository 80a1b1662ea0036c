use Rattle.lf_faults.proofs.Walks.{first_is_one}
use Rattle.lf_faults.proofs.facts.first_set_is_one.Goals as goal

pub returns : goal.returns
returns c = first_is_one
