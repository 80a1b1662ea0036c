use Rattle.lf_cone.proofs.Laws.{cone_exists, sharp_exists, required_exist}
use Rattle.lf_cone.proofs.promises.reaches_exist.Goals as goal

pub returns-clause-cones : goal.returns-clause-cones
returns-clause-cones g c = cone_exists

pub returns-clause-sharp : goal.returns-clause-sharp
returns-clause-sharp g c = λ w faults. sharp_exists w faults

pub returns-clause-edges : goal.returns-clause-edges
returns-clause-edges g c = λ w faults. required_exist w faults
