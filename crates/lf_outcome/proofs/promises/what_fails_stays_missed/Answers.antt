use Rattle.lf_outcome.proofs.Laws.{stays_missed}
use Rattle.lf_outcome.proofs.promises.what_fails_stays_missed.Goals as goal

pub returns : goal.returns
returns g c = λ w other faults others t formula fails downs shows enters. stays_missed w other faults others t formula fails downs shows enters
