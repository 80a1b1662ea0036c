use Rattle.std.proofs.Common.{ap, ◌∙◌, arith}
use Rattle.lf_outcome.proofs.UnfoldingLemmas.{flat-all, flat-end, flat-more, unfolded-from_all, unfolded-from_any, unfolded-from_over}
use Rattle.lf_outcome.proofs.unfolding.+unfold_at.Goals as goal
use Rattle.lf_outcome.proofs.unfolding.+unfold_at.Goals.{unfold_over-else-steps-test, unfold_over-then-steps-test+in_ok-push_parts+else-step-last}

pub unfold_at-returns-in_ok-unfold_parts-in-All : goal.unfold_at-returns-in_ok-unfold_parts-in-All
unfold_at-returns-in_ok-unfold_parts-in-All g t c =
    unfolded-from_all c.args.formula.now c.in-All.parts c.as_slice.result.now c.args.offset c.in_ok-unfold_parts-in-All.field-0 c.as_slice.ensures
    c.in-All.is c.in_ok-unfold_parts-in-All.ensures

pub unfold_at-returns-in_ok-unfold_parts-in-Any : goal.unfold_at-returns-in_ok-unfold_parts-in-Any
unfold_at-returns-in_ok-unfold_parts-in-Any g t c =
    unfolded-from_any c.args.formula.now c.in-Any.parts c.as_slice-in-Any.result.now c.args.offset c.in_ok-unfold_parts-in-Any.field-0
    c.as_slice-in-Any.ensures c.in-Any.is c.in_ok-unfold_parts-in-Any.ensures

pub unfold_at-returns-in_ok-unfolded-in-Over : goal.unfold_at-returns-in_ok-unfolded-in-Over
unfold_at-returns-in_ok-unfolded-in-Over g t c =
    unfolded-from_over c.args.formula.now c.in-Over.parts c.as_slice-in-Over.result.now c.args.offset c.in_ok-unfolded-in-Over.unfolded
    c.as_slice-in-Over.ensures c.in-Over.every c.in-Over.first c.in-Over.last c.joined.result c.in-Over.is c.joined.ensures
    c.in_ok-unfolded-in-Over.ensures

pub unfold_over-steps-preserved : goal.unfold_over-steps-preserved
unfold_over-steps-preserved g t c =
    flat-more c.args.parts.now c.args.offset c.args.first c.args.last c.steps.step (omega arith) c.later.result (omega arith) c.later.ensures
    c.steps.unfolded.items c.push_parts.new.onto.items c.in_ok-push_parts.ensures c.steps.invariant

pub unfold_over-returns : goal.unfold_over-returns
unfold_over-returns g t c =
    elim c.steps-test.branch [
      | unfold_over-else-steps-test w ↦
          c.from_vec.ensures ∙ ap (λ v. v.items) w.unfolded-is
          ∙ flat-all c.args.parts.now c.args.offset c.args.first c.args.last c.steps.step (omega arith) c.steps.unfolded.items
          (omega (arith, w.steps-test.false)) c.steps.invariant
      | unfold_over-then-steps-test+in_ok-push_parts+else-step-last w ↦
          c.from_vec.ensures ∙ ap (λ v. v.items) w.unfolded-is
          ∙ flat-end c.args.parts.now c.args.offset c.args.first c.args.last c.steps.step (omega arith) w.later.result (omega (arith, w.steps-test.true))
          w.later.ensures c.steps.unfolded.items w.push_parts.new.onto.items w.in_ok-push_parts.ensures c.steps.invariant (omega arith)
    ]
