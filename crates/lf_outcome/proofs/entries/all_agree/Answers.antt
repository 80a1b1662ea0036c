use Rattle.std.proofs.Common.{rules}
use Rattle.std.proofs.lemmas.List.Sorted.{IsNonDecreasingBy-from_sort_by_key}
use Rattle.lf_sim.specs.declared.entry.Entry.{Entry}
use Rattle.lf_outcome.proofs.EntriesLemmas.{differ, near-first, near-more, none-differ}
use Rattle.lf_outcome.proofs.entries.all_agree.Goals as goal

pub entries-init : goal.entries-init
entries-init c =
    near-first c.args.entries.now c.sort_unstable_by_key.new.self c.sort_unstable_by_key.ensures.permutation (record { key = 0; value = 0 })

pub returns-then-not-agree : goal.returns-then-not-agree
returns-then-not-agree c =
    differ c.args.entries.now c.sort_unstable_by_key.new.self c.sort_unstable_by_key.ensures.permutation (record { key = 0; value = 0 })
    c.entries.i c.agree.result c.entries.auto.i c.entries-test.true c.agree.ensures c.if-not-agree.true

pub entries-preserved : goal.entries-preserved
entries-preserved c =
    near-more c.args.entries.now c.sort_unstable_by_key.new.self c.sort_unstable_by_key.ensures.permutation (record { key = 0; value = 0 })
    c.entries.i c.agree.result c.entries.auto.i c.agree.ensures c.if-not-agree.false c.entries.invariant

pub returns : goal.returns
returns c =
    none-differ c.args.entries.now c.sort_unstable_by_key.new.self c.sort_unstable_by_key.ensures.permutation (record { key = 0; value = 0 })
    (IsNonDecreasingBy-from_sort_by_key (λ (e : Entry). e.key) _ c.sort_unstable_by_key.ensures.sorted (λ a r q k. search rules))
    c.entries.i c.entries-test.false c.entries.invariant
