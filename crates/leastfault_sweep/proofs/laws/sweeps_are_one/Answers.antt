use Rattle.lf_sweep.specs.Combinations.{words_at}
use Rattle.leastfault_sweep.proofs.OneLemmas.{sweep_once}
use Rattle.leastfault_sweep.proofs.laws.sweeps_are_one.Goals as goal

pub returns : goal.returns
returns c protocol by scenario vs part one other counts more exact a b =
    sweep_once c.replies_are_one.ensures.answer c.replies_are_one.ensures.search protocol by scenario vs part
    (λ number x y. c.texts_are_one.ensures scenario vs (words_at vs number) x y (exact number)) one other counts more a b
