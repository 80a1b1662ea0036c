use Rattle.lf_cone.proofs.Laws.{required_few}
use Rattle.lf_cone.proofs.promises.edges_are_few.Goals as goal

pub returns : goal.returns
returns g c = λ w faults. required_few w faults
