use Rattle.std.proofs.Common.{◌∙◌}
use Rattle.lf_rule_machine.proofs.SetsLemmas.{only-is}
use Rattle.lf_rule_machine.proofs.sets.only.Goals as goal

pub returns-clause-value : goal.returns-clause-value
returns-clause-value c = c.between.ensures.value ∙ only-is c.args.nodes c.args.node
