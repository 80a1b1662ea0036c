use Rattle.std.proofs.Common.{List, [], ◌∷◌, subst, sym}
use Rattle.lf_faults.specs.declared.fault.Parts.{Parts}
use Rattle.lf_faults.proofs.Laws.{fewer_left}
use Rattle.lf_stakes.proofs.SinglesLemmas.{IsListedTo, all_listed, at_start, one_further}
use Rattle.lf_stakes.proofs.singles.single_sets.Goals as goal

pub sets-init : goal.sets-init
sets-init c =
    let b = c.args.spec.now in
    subst (IsListedTo b c.empty-set.result) (sym c.in_ok-sets.ensures.items)
    (subst (λ (s : List Parts). IsListedTo b s (s ∷ [])) (sym c.empty-set.ensures) (at_start b))

pub sets-smaller : goal.sets-smaller
sets-smaller c = fewer_left c.args.spec.now c.limits_are_kept.ensures c.sets.set c.in-Some.next c.sets.invariant.single.allowed c.in-Some.ensures.some

pub sets-preserved : goal.sets-preserved
sets-preserved c =
    let b = c.args.spec.now in
    subst (IsListedTo b c.in-Some.next) (sym c.in_ok-push.ensures.items)
    (one_further b c.orders_are_total.ensures.sets c.sets.set c.in-Some.next c.sets.sets.items c.sets.invariant c.in-Some.ensures.some c.in-Some.ensures.single)

pub returns : goal.returns
returns c = all_listed c.args.spec.now c.sets.set c.sets.sets.items c.sets.invariant c.in_default.ensures.none
