use Rattle.lf_rule_machine.proofs.SetsLemmas.{either-is}
use Rattle.lf_rule_machine.proofs.sets.either.Goals as goal

pub returns-clause-value : goal.returns-clause-value
returns-clause-value c = either-is c.args.one c.args.other
