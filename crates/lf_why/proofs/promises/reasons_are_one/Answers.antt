use Rattle.lf_why.proofs.Laws.{why_one}
use Rattle.lf_why.proofs.promises.reasons_are_one.Goals as goal

pub returns : goal.returns
returns g c = λ words w b formula tree one other x y. why_one words w b formula tree one other x y
