use Rattle.std.proofs.Common.{arith}
use Rattle.lf_rule_machine.proofs.SetsLemmas.{without-is}
use Rattle.lf_rule_machine.proofs.sets.without.Goals as goal

pub returns-clause-value : goal.returns-clause-value
returns-clause-value c = without-is c.args.one c.args.other (omega arith)
