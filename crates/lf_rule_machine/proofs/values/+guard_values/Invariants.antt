use Rattle.std.proofs.Common.{◌+◌, ◌*◌}
use Rattle.lf_rules.specs.Terms.{term_of}
use Rattle.lf_rules.specs.Trees.{parts}
use Rattle.lf_rule_machine.proofs.values.+guard_values.Given as goal

abbrev pub decreases-guard_value : goal.decreases-guard_value
decreases-guard_value l = 3 * parts (term_of l.tree.now)

abbrev pub decreases-guard_over : goal.decreases-guard_over
decreases-guard_over l = 3 * (parts (term_of l.set.now) + parts (term_of l.body.now)) + 2

abbrev pub decreases-guard_member : goal.decreases-guard_member
decreases-guard_member l = 3 * parts (term_of l.body.now) + 1
