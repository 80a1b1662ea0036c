use Rattle.lf_certificate.proofs.Laws.{accepted_has_none, first_fault_one, accepted_or_fault, accepted_iff}
use Rattle.lf_certificate.proofs.promises.first_faults.Goals as goal

pub returns-clause-none : goal.returns-clause-none
returns-clause-none g c = λ w b formula tree. accepted_has_none w b formula tree

pub returns-clause-one : goal.returns-clause-one
returns-clause-one g c = λ w b formula tree. first_fault_one w b formula tree

pub returns-clause-exists : goal.returns-clause-exists
returns-clause-exists g c = λ w b formula tree. accepted_or_fault w b formula tree

pub returns-clause-accepted : goal.returns-clause-accepted
returns-clause-accepted g c = λ w b formula tree. accepted_iff w b formula tree
