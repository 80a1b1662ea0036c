use Rattle.lf_sweep.specs.Limits.{most_combinations}
use Rattle.lf_sweep.proofs.CombinationLemmas.{too_many}
use Rattle.lf_sweep.proofs.plan.counted.Goals as goal

pub returns-then-count-gt-MOST_COMBINATIONS : goal.returns-then-count-gt-MOST_COMBINATIONS
returns-then-count-gt-MOST_COMBINATIONS c =
    too_many c.args.varied.now c.one-item.result c.each.one-index c.each-test.true c.one-item.is c.each.count c.count-count.result most_combinations
    c.count-count.ensures c.each.invariant.0 c.if-count-gt-MOST_COMBINATIONS.true
