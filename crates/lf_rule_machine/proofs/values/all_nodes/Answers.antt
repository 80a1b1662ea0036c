use Rattle.std.proofs.Common.{ap, ◌∙◌}
use Rattle.lf_rule_machine.specs.Sets.{below}
use Rattle.lf_rule_machine.proofs.values.all_nodes.Goals as goal

pub returns-clause-value : goal.returns-clause-value
returns-clause-value c = c.below.ensures.value ∙ ap below c.from.ensures
