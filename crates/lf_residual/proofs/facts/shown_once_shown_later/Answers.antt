use Rattle.lf_residual.proofs.Laws.{lasts-shows, lasts-next, lasting-shown}
use Rattle.lf_residual.proofs.facts.shown_once_shown_later.Goals as goal

pub returns-clause-shows : goal.returns-clause-shows
returns-clause-shows c = λ k n state fact. lasts-shows k n state fact

pub returns-clause-lasts : goal.returns-clause-lasts
returns-clause-lasts c = λ k horizon pause_length arrival faults n t u fact. lasts-next k horizon pause_length arrival faults n fact t u

pub returns-clause-shown : goal.returns-clause-shown
returns-clause-shown c = λ k horizon pause_length arrival faults n t u fact. lasting-shown k horizon pause_length arrival faults n fact t u
