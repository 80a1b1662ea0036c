use Rattle.std.proofs.Common.{rules, tests}
use Rattle.lf_faults.proofs.spec.FaultSpec.admits_fault.Goals as goal

pub returns-then-step-ge1 : goal.returns-then-step-ge1
returns-then-step-ge1 c = search (tests, rules)
