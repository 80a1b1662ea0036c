use Rattle.lf_stakes.proofs.Laws.{entered-is, is-entered}
use Rattle.lf_stakes.proofs.facts.an_entry_is_of_a_run.Goals as goal

pub returns : goal.returns
returns c = λ w faults topic. (entered-is w faults topic, is-entered w faults topic)
