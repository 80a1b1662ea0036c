use Rattle.std.proofs.Common.{length}
use Rattle.lf_rule_machine.proofs.state.+same_numbers.Given as goal

abbrev pub decreases-same_numbers : goal.decreases-same_numbers
decreases-same_numbers l = length l.one.now
