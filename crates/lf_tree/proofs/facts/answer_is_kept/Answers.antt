use Rattle.lf_tree.proofs.Kept.{answer-kept}
use Rattle.lf_tree.proofs.facts.answer_is_kept.Goals as goal

pub returns-in-Some : goal.returns-in-Some
returns-in-Some c =
    answer-kept c.args.answer.now c.in-Some.faults c.items-items.result.now c.in-Some.is c.items-items.ensures.value c.items-items.ensures.few
    c.faults_are_kept.ensures c.items-items.ensures.ascending
