use Rattle.lf_doubt.proofs.Laws.{bounds-grow}
use Rattle.lf_doubt.proofs.facts.bounds_grow.Goals as goal

pub returns : goal.returns
returns c = λ b change limits there. bounds-grow b change there
