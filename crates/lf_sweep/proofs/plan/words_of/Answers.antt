use Rattle.std.proofs.Common.{◌/◌}
use Rattle.lf_sweep.specs.Combinations.{words_at}
use Rattle.lf_sweep.proofs.CombinationLemmas.{next_base, next_left, next_place, next_words}
use Rattle.lf_sweep.proofs.plan.words_of.Goals as goal

pub word-requires : goal.word-requires
word-requires c =
    next_place c.args.varied.now c.one-item.result c.each.one-index c.each-test.true c.one-item.is c.count.result c.each.below c.each.left
    c.count.ensures c.each.invariant.1 c.each.invariant.2

pub each-preserved : goal.each-preserved
each-preserved c =
    let vs = c.args.varied.now in
    let v = c.one-item.result in
    let i = c.each.one-index in
    let n = c.count.result in
    let base = next_base vs v i c.each-test.true c.one-item.is n c.each.below c.count.ensures c.each.invariant.1 in
    let words =
    next_words vs v i c.each-test.true c.one-item.is c.each.words.items c.push.new.self.items c.in_ok-word.field-0 (words_at vs c.args.number)
    (c.each.below / n) c.each.left c.in_ok-push.ensures.items base c.in_ok-word.ensures c.each.invariant.0 in (
      words,
      base,
      next_left vs v i c.each-test.true c.one-item.is n c.each.below c.each.left c.count.ensures c.each.invariant.1,
    )
