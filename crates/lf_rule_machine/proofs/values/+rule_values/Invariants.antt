use Rattle.std.proofs.Common.{◌+◌, ◌*◌}
use Rattle.lf_rules.specs.Terms.{term_of}
use Rattle.lf_rules.specs.Trees.{parts}
use Rattle.lf_rule_machine.proofs.values.+rule_values.Given as goal

abbrev pub decreases-rule_value : goal.decreases-rule_value
decreases-rule_value l = 3 * parts (term_of l.tree.now)

abbrev pub decreases-rule_over : goal.decreases-rule_over
decreases-rule_over l = 3 * (parts (term_of l.set.now) + parts (term_of l.body.now)) + 2

abbrev pub decreases-rule_member : goal.decreases-rule_member
decreases-rule_member l = 3 * parts (term_of l.body.now) + 1
