use Rattle.std.proofs.Common.{length}
use Rattle.lf_rules.proofs.sorting.+others_in.Given as goal

abbrev pub decreases-others_in : goal.decreases-others_in
decreases-others_in l = length l.variables.now
