use Rattle.lf_outcome.proofs.NamedLemmas.{delivered}
use Rattle.lf_outcome.proofs.outcome.delivered_by_nodes.Goals as goal

pub returns : goal.returns
returns g c = delivered
