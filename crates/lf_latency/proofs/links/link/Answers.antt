use Rattle.lf_latency.proofs.LinkNumbers.{one_to_one, onto}
use Rattle.lf_latency.proofs.links.link.Goals as goal

pub returns-clause-one_to_one : goal.returns-clause-one_to_one
returns-clause-one_to_one c = one_to_one c.args.nodes

pub returns-clause-onto : goal.returns-clause-onto
returns-clause-onto c = λ k below. onto c.args.nodes k c.requires.nodes_at_least below
