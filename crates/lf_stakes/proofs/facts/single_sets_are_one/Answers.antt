use Rattle.lf_stakes.proofs.Laws.{single_sets_one}
use Rattle.lf_stakes.proofs.facts.single_sets_are_one.Goals as goal

pub returns : goal.returns
returns c = λ b xs ys one other. single_sets_one b c.orders_are_total.ensures.sets xs ys one other
