use Rattle.lf_outcome.proofs.NamedLemmas.{unblocked}
use Rattle.lf_outcome.proofs.outcome.unblocked_by_nodes.Goals as goal

pub returns : goal.returns
returns g c = unblocked
