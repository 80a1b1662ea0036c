use Rattle.std.proofs.Common.{arith, ap, ◌∙◌}
use Rattle.std.specs.List.{list_all, list_any}
use Rattle.lf_sim.specs.Settings.{set_of, world_of}
use Rattle.lf_outcome.specs.Failing.{down_or_later, shown_or_later, single_by}
use Rattle.lf_outcome.specs.Truth.{truth}
use Rattle.lf_outcome.specs.Unfolding.{later, unfold_at}
use Rattle.lf_outcome.proofs.TruthLemmas.{truth-from_all, truth-from_any, truth-from_every, truth-from_some}
use Rattle.lf_outcome.proofs.TruthLemmas.{all-more, all-wrong, all-last, any-more, any-right, any-last}
use Rattle.lf_outcome.proofs.TruthLemmas.{steps-all-end, steps-all-more, steps-all-wrong, steps-all-last}
use Rattle.lf_outcome.proofs.TruthLemmas.{steps-any-end, steps-any-more, steps-any-right, steps-any-last}
use Rattle.lf_outcome.proofs.failing.+may_reach.Goals as goal

pub may_reach-returns-in-All : goal.may_reach-returns-in-All
may_reach-returns-in-All g t c =
    let w = world_of c.args.setting.now in
    let faults = set_of c.args.run.now in
    truth-from_all (down_or_later w faults c.args.last) (shown_or_later w faults c.args.last) (single_by w faults c.args.last)
    c.args.formula.now c.in-All.parts c.as_slice.result.now c.args.offset c.all_may.result c.in-All.is c.as_slice.ensures c.all_may.ensures

pub may_reach-returns-in-Any : goal.may_reach-returns-in-Any
may_reach-returns-in-Any g t c =
    let w = world_of c.args.setting.now in
    let faults = set_of c.args.run.now in
    truth-from_any (down_or_later w faults c.args.last) (shown_or_later w faults c.args.last) (single_by w faults c.args.last)
    c.args.formula.now c.in-Any.parts c.as_slice-in-Any.result.now c.args.offset c.any_may.result c.in-Any.is c.as_slice-in-Any.ensures c.any_may.ensures

pub may_reach-returns-then-every : goal.may_reach-returns-then-every
may_reach-returns-then-every g t c =
    let w = world_of c.args.setting.now in
    let faults = set_of c.args.run.now in
    truth-from_every (down_or_later w faults c.args.last) (shown_or_later w faults c.args.last) (single_by w faults c.args.last)
    c.args.formula.now c.in-Over.every c.in-Over.first c.in-Over.end c.in-Over.parts c.as_slice-then-every.result.now c.args.offset c.all_over.result
    c.in-Over.is c.if-every.true c.as_slice-then-every.ensures c.all_over.ensures

pub may_reach-returns-else-every : goal.may_reach-returns-else-every
may_reach-returns-else-every g t c =
    let w = world_of c.args.setting.now in
    let faults = set_of c.args.run.now in
    truth-from_some (down_or_later w faults c.args.last) (shown_or_later w faults c.args.last) (single_by w faults c.args.last)
    c.args.formula.now c.in-Over.every c.in-Over.first c.in-Over.end c.in-Over.parts c.as_slice-else-every.result.now c.args.offset c.any_over.result
    c.in-Over.is c.if-every.false c.as_slice-else-every.ensures c.any_over.ensures

pub all_may-all-preserved : goal.all_may-all-preserved
all_may-all-preserved g t c =
    let w = world_of c.args.setting.now in
    let faults = set_of c.args.run.now in
    all-more (λ part. truth (down_or_later w faults c.args.last) (shown_or_later w faults c.args.last) (single_by w faults c.args.last) (unfold_at part
    c.args.offset)) c.args.parts.now
    c.all.part-index c.part-item.result c.may_reach.result c.all-test.true c.part-item.is
    c.may_reach.ensures c.all.invariant c.if-not-may_reach.false

pub all_may-returns-then-not-may_reach : goal.all_may-returns-then-not-may_reach
all_may-returns-then-not-may_reach g t c =
    let w = world_of c.args.setting.now in
    let faults = set_of c.args.run.now in
    all-wrong (λ part. truth (down_or_later w faults c.args.last) (shown_or_later w faults c.args.last) (single_by w faults c.args.last) (unfold_at part
    c.args.offset)) c.args.parts.now
    c.all.part-index c.part-item.result c.may_reach.result c.all-test.true c.part-item.is
    c.may_reach.ensures c.if-not-may_reach.true

pub all_may-returns : goal.all_may-returns
all_may-returns g t c =
    let w = world_of c.args.setting.now in
    let faults = set_of c.args.run.now in
    all-last (λ part. truth (down_or_later w faults c.args.last) (shown_or_later w faults c.args.last) (single_by w faults c.args.last) (unfold_at part
    c.args.offset)) c.args.parts.now
    c.all.part-index (omega arith) c.all.invariant

pub any_may-any-preserved : goal.any_may-any-preserved
any_may-any-preserved g t c =
    let w = world_of c.args.setting.now in
    let faults = set_of c.args.run.now in
    any-more (λ part. truth (down_or_later w faults c.args.last) (shown_or_later w faults c.args.last) (single_by w faults c.args.last) (unfold_at part
    c.args.offset)) c.args.parts.now
    c.any.part-index c.part-item.result c.may_reach.result c.any-test.true c.part-item.is
    c.may_reach.ensures c.any.invariant c.if-may_reach.false

pub any_may-returns-then-may_reach : goal.any_may-returns-then-may_reach
any_may-returns-then-may_reach g t c =
    let w = world_of c.args.setting.now in
    let faults = set_of c.args.run.now in
    any-right (λ part. truth (down_or_later w faults c.args.last) (shown_or_later w faults c.args.last) (single_by w faults c.args.last) (unfold_at part
    c.args.offset)) c.args.parts.now
    c.any.part-index c.part-item.result c.may_reach.result c.any-test.true c.part-item.is
    c.may_reach.ensures c.if-may_reach.true

pub any_may-returns : goal.any_may-returns
any_may-returns g t c =
    let w = world_of c.args.setting.now in
    let faults = set_of c.args.run.now in
    any-last (λ part. truth (down_or_later w faults c.args.last) (shown_or_later w faults c.args.last) (single_by w faults c.args.last) (unfold_at part
    c.args.offset)) c.args.parts.now
    c.any.part-index (omega arith) c.any.invariant

pub all_over-steps-preserved : goal.all_over-steps-preserved
all_over-steps-preserved g t c =
    let w = world_of c.args.setting.now in
    let faults = set_of c.args.run.now in
    steps-all-more (λ t. list_all (λ part. truth (down_or_later w faults c.args.last) (shown_or_later w faults c.args.last) (single_by w faults c.args.last)
    (unfold_at part (later c.args.offset t))) c.args.parts.now) c.args.first c.args.end c.steps.step (omega arith)
    c.all_may.result (omega arith)
    (c.all_may.ensures ∙ ap (λ k. list_all (λ part. truth (down_or_later w faults c.args.last) (shown_or_later w faults c.args.last) (single_by w faults
    c.args.last) (unfold_at part k)) c.args.parts.now) c.later.ensures)
    c.steps.invariant c.if-not-all_may.false

pub all_over-returns-then-not-all_may : goal.all_over-returns-then-not-all_may
all_over-returns-then-not-all_may g t c =
    let w = world_of c.args.setting.now in
    let faults = set_of c.args.run.now in
    steps-all-wrong (λ t. list_all (λ part. truth (down_or_later w faults c.args.last) (shown_or_later w faults c.args.last) (single_by w faults c.args.last)
    (unfold_at part (later c.args.offset t))) c.args.parts.now) c.args.first c.args.end c.steps.step (omega arith)
    c.all_may.result (omega arith)
    (c.all_may.ensures ∙ ap (λ k. list_all (λ part. truth (down_or_later w faults c.args.last) (shown_or_later w faults c.args.last) (single_by w faults
    c.args.last) (unfold_at part k)) c.args.parts.now) c.later.ensures)
    c.if-not-all_may.true

pub all_over-returns-else-not-all_may : goal.all_over-returns-else-not-all_may
all_over-returns-else-not-all_may g t c =
    let w = world_of c.args.setting.now in
    let faults = set_of c.args.run.now in
    steps-all-end (λ t. list_all (λ part. truth (down_or_later w faults c.args.last) (shown_or_later w faults c.args.last) (single_by w faults c.args.last)
    (unfold_at part (later c.args.offset t))) c.args.parts.now) c.args.first c.args.end c.steps.step (omega arith)
    c.all_may.result (omega arith)
    (c.all_may.ensures ∙ ap (λ k. list_all (λ part. truth (down_or_later w faults c.args.last) (shown_or_later w faults c.args.last) (single_by w faults
    c.args.last) (unfold_at part k)) c.args.parts.now) c.later.ensures)
    (omega arith) c.steps.invariant c.if-not-all_may.false

pub all_over-returns : goal.all_over-returns
all_over-returns g t c =
    let w = world_of c.args.setting.now in
    let faults = set_of c.args.run.now in
    steps-all-last (λ t. list_all (λ part. truth (down_or_later w faults c.args.last) (shown_or_later w faults c.args.last) (single_by w faults c.args.last)
    (unfold_at part (later c.args.offset t))) c.args.parts.now) c.args.first c.args.end c.steps.step (omega arith) (omega arith) c.steps.invariant

pub any_over-steps-preserved : goal.any_over-steps-preserved
any_over-steps-preserved g t c =
    let w = world_of c.args.setting.now in
    let faults = set_of c.args.run.now in
    steps-any-more (λ t. list_any (λ part. truth (down_or_later w faults c.args.last) (shown_or_later w faults c.args.last) (single_by w faults c.args.last)
    (unfold_at part (later c.args.offset t))) c.args.parts.now) c.args.first c.args.end c.steps.step (omega arith)
    c.any_may.result (omega arith)
    (c.any_may.ensures ∙ ap (λ k. list_any (λ part. truth (down_or_later w faults c.args.last) (shown_or_later w faults c.args.last) (single_by w faults
    c.args.last) (unfold_at part k)) c.args.parts.now) c.later.ensures)
    c.steps.invariant c.if-any_may.false

pub any_over-returns-then-any_may : goal.any_over-returns-then-any_may
any_over-returns-then-any_may g t c =
    let w = world_of c.args.setting.now in
    let faults = set_of c.args.run.now in
    steps-any-right (λ t. list_any (λ part. truth (down_or_later w faults c.args.last) (shown_or_later w faults c.args.last) (single_by w faults c.args.last)
    (unfold_at part (later c.args.offset t))) c.args.parts.now) c.args.first c.args.end c.steps.step (omega arith)
    c.any_may.result (omega arith)
    (c.any_may.ensures ∙ ap (λ k. list_any (λ part. truth (down_or_later w faults c.args.last) (shown_or_later w faults c.args.last) (single_by w faults
    c.args.last) (unfold_at part k)) c.args.parts.now) c.later.ensures)
    c.if-any_may.true

pub any_over-returns-else-any_may : goal.any_over-returns-else-any_may
any_over-returns-else-any_may g t c =
    let w = world_of c.args.setting.now in
    let faults = set_of c.args.run.now in
    steps-any-end (λ t. list_any (λ part. truth (down_or_later w faults c.args.last) (shown_or_later w faults c.args.last) (single_by w faults c.args.last)
    (unfold_at part (later c.args.offset t))) c.args.parts.now) c.args.first c.args.end c.steps.step (omega arith)
    c.any_may.result (omega arith)
    (c.any_may.ensures ∙ ap (λ k. list_any (λ part. truth (down_or_later w faults c.args.last) (shown_or_later w faults c.args.last) (single_by w faults
    c.args.last) (unfold_at part k)) c.args.parts.now) c.later.ensures)
    (omega arith) c.steps.invariant c.if-any_may.false

pub any_over-returns : goal.any_over-returns
any_over-returns g t c =
    let w = world_of c.args.setting.now in
    let faults = set_of c.args.run.now in
    steps-any-last (λ t. list_any (λ part. truth (down_or_later w faults c.args.last) (shown_or_later w faults c.args.last) (single_by w faults c.args.last)
    (unfold_at part (later c.args.offset t))) c.args.parts.now) c.args.first c.args.end c.steps.step (omega arith) (omega arith) c.steps.invariant
