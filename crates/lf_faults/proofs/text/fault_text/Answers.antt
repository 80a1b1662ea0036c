use Rattle.std.proofs.Common.{rules}
use Rattle.lf_faults.proofs.text.fault_text.Goals as goal

pub returns-in-Omit : goal.returns-in-Omit
returns-in-Omit c = search rules
