use Rattle.std.proofs.Common.{◌≡◌, ◌+◌, ◌^◌, ◌<◌, [], length, replicate, subst, sym, ap, refl, ◌∙◌, rules}
use Rattle.std.specs.Prelude.{All}
use Rattle.std.proofs.lemmas.List.{take_all, with_items_is}
use Rattle.lf_sim.specs.Settings.{set_of, world_of}
use Rattle.lf_stakes.specs.Stakes.{counts_of, has_number, is_taken_in, rules_of, times_taken}
use Rattle.lf_stakes.proofs.CountsLemmas.{counts-fit, counts-more, zeros}
use Rattle.lf_stakes.proofs.TakenLemmas.{has-all_taken}
use Rattle.lf_stakes.proofs.counting.rules_taken.Goals as goal

pub loop-set-init : goal.loop-set-init
loop-set-init c =
    let k = c.args.setting.now.machine in
    let w = world_of c.args.setting.now in
    c.in_ok-counts.ensures.items_if_clones_equal (λ y same. same) ∙ ap (λ n. replicate n 0) c.rules_of.ensures
    ∙ zeros (times_taken k w []) 1 (rules_of k) (λ r. refl)

pub count-requires : goal.count-requires
count-requires c =
    let k = c.args.setting.now.machine in
    let w = world_of c.args.setting.now in
    let sets = c.args.sets.now in
    let short : length sets < 2 ^ 64 = search rules in
    subst (All (λ m. m + 1 < 2 ^ 64)) (sym (c.as_mut_slice.ensures.value ∙ c.loop-set.invariant))
    (counts-fit (is_taken_in k w) (rules_of k) sets c.loop-set.set-index c.loop-set-test.true short)

pub loop-set-preserved : goal.loop-set-preserved
loop-set-preserved c =
    let k = c.args.setting.now.machine in
    let w = world_of c.args.setting.now in
    let taken = is_taken_in k w in
    let counted = c.count.new.counts in
    let numbers = c.as_slice.result.now in
    let same_length : length counted ≡ c.loop-set.counts.len =
    c.count.auto.counts ∙ ap length c.as_mut_slice.ensures.value ∙ sym c.loop-set.counts.ok.0 in
    with_items_is c.loop-set.counts counted same_length
    ∙ counts-more taken (rules_of k) c.args.sets.now c.loop-set.set-index c.set-item.result c.as_mut_slice.result.now counted numbers
    c.loop-set-test.true c.set-item.is (c.as_mut_slice.ensures.value ∙ c.loop-set.invariant) c.count.auto.counts
    (λ r. ap (has_number r) (c.as_slice.ensures.value ∙ c.in_ok-numbers.ensures) ∙ has-all_taken k w (set_of c.in_ok-run.run') r
    ∙ ap (λ faults. taken faults r) c.in_ok-run.ensures.set)
    c.count.ensures

pub returns : goal.returns
returns c =
    let k = c.args.setting.now.machine in
    let w = world_of c.args.setting.now in
    c.loop-set.invariant ∙ ap (counts_of k w) (take_all c.loop-set.set-index c.args.sets.now c.loop-set-test.false)
