use Rattle.lf_outcome.specs.Truth.{is_down, is_shown, is_single}
use Rattle.lf_outcome.proofs.TruthLemmas.{said-All, said-Any, said-Down, said-One, said-Over, said-Shows}
use Rattle.lf_outcome.proofs.truth.by_cases.Goals as goal

pub returns-clause-all : goal.returns-clause-all
returns-clause-all g c = λ w faults. said-All (is_down w faults) (is_shown w faults) (is_single w faults)

pub returns-clause-any : goal.returns-clause-any
returns-clause-any g c = λ w faults. said-Any (is_down w faults) (is_shown w faults) (is_single w faults)

pub returns-clause-down : goal.returns-clause-down
returns-clause-down g c = λ w faults. said-Down (is_down w faults) (is_shown w faults) (is_single w faults)

pub returns-clause-shows : goal.returns-clause-shows
returns-clause-shows g c = λ w faults. said-Shows (is_down w faults) (is_shown w faults) (is_single w faults)

pub returns-clause-one : goal.returns-clause-one
returns-clause-one g c = λ w faults. said-One (is_down w faults) (is_shown w faults) (is_single w faults)

pub returns-clause-over : goal.returns-clause-over
returns-clause-over g c = λ w faults. said-Over (is_down w faults) (is_shown w faults) (is_single w faults)
