use Rattle.std.proofs.Common.{length, ap, subst, arith}
use Rattle.std.proofs.lemmas.List.{length-append}
use Rattle.lf_check.specs.Rows.{IsSetAt}
use Rattle.lf_check.proofs.FoundLemmas.{sets-more}
use Rattle.lf_check.proofs.listing.sets_of.Goals as goal

pub loop-row-preserved : goal.loop-row-preserved
loop-row-preserved c =
    let tree = c.args.tree.now in
    let set = c.next_set-set.result in (
      omega (arith, c.loop-row.invariant.0, simp length-append at (ap length c.in_ok-push.ensures.items)),
      sets-more tree c.loop-row.sets.items c.push.new.self.items set c.loop-row.invariant.1
          (subst (λ xs. IsSetAt tree (length xs) set) c.as_slice.ensures.value c.next_set-set.ensures) c.in_ok-push.ensures.items,
    )
