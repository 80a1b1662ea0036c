use Rattle.lf_rule_machine.proofs.SetsLemmas.{nodes_in-is}
use Rattle.lf_rule_machine.proofs.sets.nodes_in.Goals as goal

pub returns-clause-value : goal.returns-clause-value
returns-clause-value c = nodes_in-is c.args.number
