use Rattle.std.proofs.Common.{rules}
use Rattle.std.proofs.lemmas.List.Sorted.{answers_always, ranks_by}
use Rattle.lf_faults.specs.Faults.{set_is_before}
use Rattle.lf_book.proofs.LeastLemmas.{different_permuted, sorted_ascend}
use Rattle.lf_book.proofs.finishing.put_in_order.Goals as goal

pub returns-clause-ascending : goal.returns-clause-ascending
returns-clause-ascending c =
    let order = ranks_by c.orders_are_total.ensures.sets (λ x. x) in
    let sort = c.sort_unstable_by in
    sorted_ascend sort.new.self.items order (sort.ensures.sorted set_is_before order (answers_always _ _ _ (λ f a r g h. search rules)))
    (different_permuted c.args.sets.now.items sort.new.self.items sort.ensures.permutation c.requires)
