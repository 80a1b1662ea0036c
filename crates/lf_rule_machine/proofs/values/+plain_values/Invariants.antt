use Rattle.std.proofs.Common.{◌+◌, ◌*◌}
use Rattle.lf_rules.specs.Terms.{term_of}
use Rattle.lf_rules.specs.Trees.{parts}
use Rattle.lf_rule_machine.proofs.values.+plain_values.Given as goal

abbrev pub decreases-plain_value : goal.decreases-plain_value
decreases-plain_value l = 3 * parts (term_of l.tree.now)

abbrev pub decreases-plain_over : goal.decreases-plain_over
decreases-plain_over l = 3 * (parts (term_of l.set.now) + parts (term_of l.body.now)) + 2

abbrev pub decreases-plain_member : goal.decreases-plain_member
decreases-plain_member l = 3 * parts (term_of l.body.now) + 1
