use Rattle.lf_faults.proofs.Allowing.{subset_allowed}
use Rattle.lf_faults.proofs.facts.subsets_are_allowed.Goals as goal

pub returns : goal.returns
returns c = subset_allowed
