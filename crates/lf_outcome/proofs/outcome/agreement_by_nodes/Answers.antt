use Rattle.lf_outcome.proofs.NamedLemmas.{agreement}
use Rattle.lf_outcome.proofs.outcome.agreement_by_nodes.Goals as goal

pub returns : goal.returns
returns g c = agreement
