use Rattle.lf_rule_machine.proofs.SetsLemmas.{both-is}
use Rattle.lf_rule_machine.proofs.sets.both.Goals as goal

pub returns-clause-value : goal.returns-clause-value
returns-clause-value c = both-is c.args.one c.args.other
