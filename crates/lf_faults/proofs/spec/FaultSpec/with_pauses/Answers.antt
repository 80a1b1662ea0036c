use Rattle.std.proofs.Common.{rules, tests}
use Rattle.lf_faults.proofs.spec.FaultSpec.with_pauses.Goals as goal

pub invariant_of-result : goal.invariant_of-result
invariant_of-result c = search (tests, rules)

pub returns-then-length-le-LONGEST_PAUSE-clause-some : goal.returns-then-length-le-LONGEST_PAUSE-clause-some
returns-then-length-le-LONGEST_PAUSE-clause-some c = search (tests, rules)
