use Rattle.std.proofs.Common.{rules, tests}
use Rattle.lf_faults.proofs.spec.FaultSpec.new.Goals as goal

pub invariant_of-result : goal.invariant_of-result
invariant_of-result c = search (tests, rules)

pub returns-then-budget-le-MOST_FAULTS-clause-some : goal.returns-then-budget-le-MOST_FAULTS-clause-some
returns-then-budget-le-MOST_FAULTS-clause-some c = search (tests, rules)
