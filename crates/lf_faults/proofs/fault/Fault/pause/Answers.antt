use Rattle.std.proofs.Common.{rules}
use Rattle.lf_faults.proofs.fault.Fault.pause.Goals as goal

pub returns-then-is_point-clause-value : goal.returns-then-is_point-clause-value
returns-then-is_point-clause-value c = search rules
