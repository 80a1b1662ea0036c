use Rattle.lf_outcome.proofs.NamedLemmas.{durable}
use Rattle.lf_outcome.proofs.outcome.durable_by_nodes.Goals as goal

pub returns : goal.returns
returns g c = durable
