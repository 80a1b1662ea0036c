use Rattle.lf_doubt.proofs.Laws.{part-in}
use Rattle.lf_doubt.proofs.facts.parts_are_told.Goals as goal

pub returns : goal.returns
returns c = part-in
