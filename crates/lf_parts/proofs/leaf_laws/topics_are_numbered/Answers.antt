use Rattle.lf_parts.proofs.Laws.{numbered}
use Rattle.lf_parts.proofs.leaf_laws.topics_are_numbered.Goals as goal

pub returns : goal.returns
returns c = λ p place number topic there is. numbered p place number topic there is
