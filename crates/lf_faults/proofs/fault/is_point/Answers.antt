use Rattle.std.proofs.Common.{rules, tests}
use Rattle.lf_faults.proofs.fault.is_point.Goals as goal

pub returns-then-step-ge1 : goal.returns-then-step-ge1
returns-then-step-ge1 c = search (tests, rules)
