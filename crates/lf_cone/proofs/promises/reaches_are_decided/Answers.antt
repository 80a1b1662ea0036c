use Rattle.lf_cone.proofs.Laws.{closed_or_past, closed_or_not, required_or_not}
use Rattle.lf_cone.proofs.promises.reaches_are_decided.Goals as goal

pub returns-clause-past : goal.returns-clause-past
returns-clause-past g c = λ w faults. closed_or_past w faults

pub returns-clause-closed : goal.returns-clause-closed
returns-clause-closed g c = λ w faults. closed_or_not w faults

pub returns-clause-required : goal.returns-clause-required
returns-clause-required g c = λ w faults. required_or_not w faults
