use Rattle.lf_parts.proofs.Laws.{as_many, each_part}
use Rattle.lf_parts.proofs.leaf_laws.parts_are_leaves.Goals as goal

pub returns : goal.returns
returns c = record { many = λ p. as_many p; each = λ p place leaf there. each_part p place leaf there }
