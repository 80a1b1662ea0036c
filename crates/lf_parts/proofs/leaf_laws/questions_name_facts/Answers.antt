use Rattle.lf_parts.proofs.Laws.{questions-named}
use Rattle.lf_parts.proofs.leaf_laws.questions_name_facts.Goals as goal

pub returns : goal.returns
returns c = λ d p q place named found. questions-named d p q place named found
