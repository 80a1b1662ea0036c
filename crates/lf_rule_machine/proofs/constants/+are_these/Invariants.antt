use Rattle.std.proofs.Common.{length}
use Rattle.lf_rule_machine.proofs.constants.+are_these.Given as goal

abbrev pub decreases-are_these : goal.decreases-are_these
decreases-are_these l = length l.constants.now
