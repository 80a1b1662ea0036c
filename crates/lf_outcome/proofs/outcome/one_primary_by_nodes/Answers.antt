use Rattle.lf_outcome.proofs.NamedLemmas.{one_primary}
use Rattle.lf_outcome.proofs.outcome.one_primary_by_nodes.Goals as goal

pub returns : goal.returns
returns g c = one_primary
