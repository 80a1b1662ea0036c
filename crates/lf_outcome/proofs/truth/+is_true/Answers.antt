use Rattle.std.proofs.Common.{rules, arith, ap, ◌∙◌}
use Rattle.std.specs.List.{list_all, list_any}
use Rattle.lf_sim.specs.Settings.{set_of, world_of}
use Rattle.lf_outcome.specs.Truth.{is_down, is_shown_where, is_single_where, truth}
use Rattle.lf_outcome.specs.Unfolding.{later, unfold_at}
use Rattle.lf_outcome.proofs.TruthLemmas.{truth-from_all, truth-from_any, truth-from_down, truth-from_every, truth-from_one, truth-from_shows, truth-from_some}
use Rattle.lf_outcome.proofs.TruthLemmas.{all-more, all-wrong, all-last, any-more, any-right, any-last}
use Rattle.lf_outcome.proofs.TruthLemmas.{steps-all-end, steps-all-more, steps-all-wrong, steps-all-last}
use Rattle.lf_outcome.proofs.TruthLemmas.{steps-any-end, steps-any-more, steps-any-right, steps-any-last}
use Rattle.lf_outcome.proofs.truth.+is_true.Goals as goal

pub is_true-returns-in-All : goal.is_true-returns-in-All
is_true-returns-in-All g t c =
    let w = world_of c.args.setting.now in
    let faults = set_of c.args.run.now in
    truth-from_all (is_down w faults) (is_shown_where w faults c.args.limit.now) (is_single_where w faults c.args.limit.now)
    c.args.formula.now c.in-All.parts c.as_slice.result.now c.args.offset c.all_true.result c.in-All.is c.as_slice.ensures c.all_true.ensures

pub is_true-returns-in-Any : goal.is_true-returns-in-Any
is_true-returns-in-Any g t c =
    let w = world_of c.args.setting.now in
    let faults = set_of c.args.run.now in
    truth-from_any (is_down w faults) (is_shown_where w faults c.args.limit.now) (is_single_where w faults c.args.limit.now)
    c.args.formula.now c.in-Any.parts c.as_slice-in-Any.result.now c.args.offset c.any_true.result c.in-Any.is c.as_slice-in-Any.ensures c.any_true.ensures

pub is_true-returns-in-Down : goal.is_true-returns-in-Down
is_true-returns-in-Down g t c =
    let w = world_of c.args.setting.now in
    let faults = set_of c.args.run.now in
    truth-from_down (is_down w faults) (is_shown_where w faults c.args.limit.now) (is_single_where w faults c.args.limit.now)
    c.args.formula.now c.in-Down.node c.in-Down.step c.args.offset c.later.result _ c.in-Down.is c.later.ensures (search rules)

pub is_true-returns-then-is_within : goal.is_true-returns-then-is_within
is_true-returns-then-is_within g t c =
    let w = world_of c.args.setting.now in
    let faults = set_of c.args.run.now in
    truth-from_shows (is_down w faults) (is_shown_where w faults c.args.limit.now) (is_single_where w faults c.args.limit.now)
    c.args.formula.now c.in-Shows.node c.in-Shows.step c.in-Shows.fact c.args.offset c.later-step.result _ c.in-Shows.is c.later-step.ensures (search rules)

pub is_true-returns-else-is_within : goal.is_true-returns-else-is_within
is_true-returns-else-is_within g t c =
    let w = world_of c.args.setting.now in
    let faults = set_of c.args.run.now in
    truth-from_shows (is_down w faults) (is_shown_where w faults c.args.limit.now) (is_single_where w faults c.args.limit.now)
    c.args.formula.now c.in-Shows.node c.in-Shows.step c.in-Shows.fact c.args.offset c.later-step.result _ c.in-Shows.is c.later-step.ensures (search rules)

pub is_true-returns-then-are_within : goal.is_true-returns-then-are_within
is_true-returns-then-are_within g t c =
    let w = world_of c.args.setting.now in
    let faults = set_of c.args.run.now in
    truth-from_one (is_down w faults) (is_shown_where w faults c.args.limit.now) (is_single_where w faults c.args.limit.now)
    c.args.formula.now c.in-One.nodes c.in-One.last c.in-One.topic c.args.offset _ c.in-One.is (search rules)

pub is_true-returns-else-are_within : goal.is_true-returns-else-are_within
is_true-returns-else-are_within g t c =
    let w = world_of c.args.setting.now in
    let faults = set_of c.args.run.now in
    truth-from_one (is_down w faults) (is_shown_where w faults c.args.limit.now) (is_single_where w faults c.args.limit.now)
    c.args.formula.now c.in-One.nodes c.in-One.last c.in-One.topic c.args.offset _ c.in-One.is (search rules)

pub is_true-returns-then-every : goal.is_true-returns-then-every
is_true-returns-then-every g t c =
    let w = world_of c.args.setting.now in
    let faults = set_of c.args.run.now in
    truth-from_every (is_down w faults) (is_shown_where w faults c.args.limit.now) (is_single_where w faults c.args.limit.now)
    c.args.formula.now c.in-Over.every c.in-Over.first c.in-Over.last c.in-Over.parts c.as_slice-then-every.result.now c.args.offset c.all_over.result
    c.in-Over.is c.if-every.true c.as_slice-then-every.ensures c.all_over.ensures

pub is_true-returns-else-every : goal.is_true-returns-else-every
is_true-returns-else-every g t c =
    let w = world_of c.args.setting.now in
    let faults = set_of c.args.run.now in
    truth-from_some (is_down w faults) (is_shown_where w faults c.args.limit.now) (is_single_where w faults c.args.limit.now)
    c.args.formula.now c.in-Over.every c.in-Over.first c.in-Over.last c.in-Over.parts c.as_slice-else-every.result.now c.args.offset c.any_over.result
    c.in-Over.is c.if-every.false c.as_slice-else-every.ensures c.any_over.ensures

pub all_true-all-preserved : goal.all_true-all-preserved
all_true-all-preserved g t c =
    let w = world_of c.args.setting.now in
    let faults = set_of c.args.run.now in
    all-more (λ part. truth (is_down w faults) (is_shown_where w faults c.args.limit.now) (is_single_where w faults c.args.limit.now) (unfold_at part
    c.args.offset)) c.args.parts.now
    c.all.part-index c.part-item.result c.is_true.result c.all-test.true c.part-item.is
    c.is_true.ensures c.all.invariant c.if-not-is_true.false

pub all_true-returns-then-not-is_true : goal.all_true-returns-then-not-is_true
all_true-returns-then-not-is_true g t c =
    let w = world_of c.args.setting.now in
    let faults = set_of c.args.run.now in
    all-wrong (λ part. truth (is_down w faults) (is_shown_where w faults c.args.limit.now) (is_single_where w faults c.args.limit.now) (unfold_at part
    c.args.offset)) c.args.parts.now
    c.all.part-index c.part-item.result c.is_true.result c.all-test.true c.part-item.is
    c.is_true.ensures c.if-not-is_true.true

pub all_true-returns : goal.all_true-returns
all_true-returns g t c =
    let w = world_of c.args.setting.now in
    let faults = set_of c.args.run.now in
    all-last (λ part. truth (is_down w faults) (is_shown_where w faults c.args.limit.now) (is_single_where w faults c.args.limit.now) (unfold_at part
    c.args.offset)) c.args.parts.now
    c.all.part-index (omega arith) c.all.invariant

pub any_true-any-preserved : goal.any_true-any-preserved
any_true-any-preserved g t c =
    let w = world_of c.args.setting.now in
    let faults = set_of c.args.run.now in
    any-more (λ part. truth (is_down w faults) (is_shown_where w faults c.args.limit.now) (is_single_where w faults c.args.limit.now) (unfold_at part
    c.args.offset)) c.args.parts.now
    c.any.part-index c.part-item.result c.is_true.result c.any-test.true c.part-item.is
    c.is_true.ensures c.any.invariant c.if-is_true.false

pub any_true-returns-then-is_true : goal.any_true-returns-then-is_true
any_true-returns-then-is_true g t c =
    let w = world_of c.args.setting.now in
    let faults = set_of c.args.run.now in
    any-right (λ part. truth (is_down w faults) (is_shown_where w faults c.args.limit.now) (is_single_where w faults c.args.limit.now) (unfold_at part
    c.args.offset)) c.args.parts.now
    c.any.part-index c.part-item.result c.is_true.result c.any-test.true c.part-item.is
    c.is_true.ensures c.if-is_true.true

pub any_true-returns : goal.any_true-returns
any_true-returns g t c =
    let w = world_of c.args.setting.now in
    let faults = set_of c.args.run.now in
    any-last (λ part. truth (is_down w faults) (is_shown_where w faults c.args.limit.now) (is_single_where w faults c.args.limit.now) (unfold_at part
    c.args.offset)) c.args.parts.now
    c.any.part-index (omega arith) c.any.invariant

pub all_over-steps-preserved : goal.all_over-steps-preserved
all_over-steps-preserved g t c =
    let w = world_of c.args.setting.now in
    let faults = set_of c.args.run.now in
    steps-all-more (λ t. list_all (λ part. truth (is_down w faults) (is_shown_where w faults c.args.limit.now) (is_single_where w faults c.args.limit.now)
    (unfold_at part (later c.args.offset t))) c.args.parts.now) c.args.first c.args.last c.steps.step (omega arith)
    c.all_true.result (omega arith)
    (c.all_true.ensures ∙ ap (λ k. list_all (λ part. truth (is_down w faults) (is_shown_where w faults c.args.limit.now) (is_single_where w faults
    c.args.limit.now) (unfold_at part k)) c.args.parts.now) c.later.ensures)
    c.steps.invariant c.if-not-all_true.false

pub all_over-returns-then-not-all_true : goal.all_over-returns-then-not-all_true
all_over-returns-then-not-all_true g t c =
    let w = world_of c.args.setting.now in
    let faults = set_of c.args.run.now in
    steps-all-wrong (λ t. list_all (λ part. truth (is_down w faults) (is_shown_where w faults c.args.limit.now) (is_single_where w faults c.args.limit.now)
    (unfold_at part (later c.args.offset t))) c.args.parts.now) c.args.first c.args.last c.steps.step (omega arith)
    c.all_true.result (omega arith)
    (c.all_true.ensures ∙ ap (λ k. list_all (λ part. truth (is_down w faults) (is_shown_where w faults c.args.limit.now) (is_single_where w faults
    c.args.limit.now) (unfold_at part k)) c.args.parts.now) c.later.ensures)
    c.if-not-all_true.true

pub all_over-returns-else-not-all_true : goal.all_over-returns-else-not-all_true
all_over-returns-else-not-all_true g t c =
    let w = world_of c.args.setting.now in
    let faults = set_of c.args.run.now in
    steps-all-end (λ t. list_all (λ part. truth (is_down w faults) (is_shown_where w faults c.args.limit.now) (is_single_where w faults c.args.limit.now)
    (unfold_at part (later c.args.offset t))) c.args.parts.now) c.args.first c.args.last c.steps.step (omega arith)
    c.all_true.result (omega arith)
    (c.all_true.ensures ∙ ap (λ k. list_all (λ part. truth (is_down w faults) (is_shown_where w faults c.args.limit.now) (is_single_where w faults
    c.args.limit.now) (unfold_at part k)) c.args.parts.now) c.later.ensures)
    (omega arith) c.steps.invariant c.if-not-all_true.false

pub all_over-returns : goal.all_over-returns
all_over-returns g t c =
    let w = world_of c.args.setting.now in
    let faults = set_of c.args.run.now in
    steps-all-last (λ t. list_all (λ part. truth (is_down w faults) (is_shown_where w faults c.args.limit.now) (is_single_where w faults c.args.limit.now)
    (unfold_at part (later c.args.offset t))) c.args.parts.now) c.args.first c.args.last c.steps.step (omega arith) (omega arith) c.steps.invariant

pub any_over-steps-preserved : goal.any_over-steps-preserved
any_over-steps-preserved g t c =
    let w = world_of c.args.setting.now in
    let faults = set_of c.args.run.now in
    steps-any-more (λ t. list_any (λ part. truth (is_down w faults) (is_shown_where w faults c.args.limit.now) (is_single_where w faults c.args.limit.now)
    (unfold_at part (later c.args.offset t))) c.args.parts.now) c.args.first c.args.last c.steps.step (omega arith)
    c.any_true.result (omega arith)
    (c.any_true.ensures ∙ ap (λ k. list_any (λ part. truth (is_down w faults) (is_shown_where w faults c.args.limit.now) (is_single_where w faults
    c.args.limit.now) (unfold_at part k)) c.args.parts.now) c.later.ensures)
    c.steps.invariant c.if-any_true.false

pub any_over-returns-then-any_true : goal.any_over-returns-then-any_true
any_over-returns-then-any_true g t c =
    let w = world_of c.args.setting.now in
    let faults = set_of c.args.run.now in
    steps-any-right (λ t. list_any (λ part. truth (is_down w faults) (is_shown_where w faults c.args.limit.now) (is_single_where w faults c.args.limit.now)
    (unfold_at part (later c.args.offset t))) c.args.parts.now) c.args.first c.args.last c.steps.step (omega arith)
    c.any_true.result (omega arith)
    (c.any_true.ensures ∙ ap (λ k. list_any (λ part. truth (is_down w faults) (is_shown_where w faults c.args.limit.now) (is_single_where w faults
    c.args.limit.now) (unfold_at part k)) c.args.parts.now) c.later.ensures)
    c.if-any_true.true

pub any_over-returns-else-any_true : goal.any_over-returns-else-any_true
any_over-returns-else-any_true g t c =
    let w = world_of c.args.setting.now in
    let faults = set_of c.args.run.now in
    steps-any-end (λ t. list_any (λ part. truth (is_down w faults) (is_shown_where w faults c.args.limit.now) (is_single_where w faults c.args.limit.now)
    (unfold_at part (later c.args.offset t))) c.args.parts.now) c.args.first c.args.last c.steps.step (omega arith)
    c.any_true.result (omega arith)
    (c.any_true.ensures ∙ ap (λ k. list_any (λ part. truth (is_down w faults) (is_shown_where w faults c.args.limit.now) (is_single_where w faults
    c.args.limit.now) (unfold_at part k)) c.args.parts.now) c.later.ensures)
    (omega arith) c.steps.invariant c.if-any_true.false

pub any_over-returns : goal.any_over-returns
any_over-returns g t c =
    let w = world_of c.args.setting.now in
    let faults = set_of c.args.run.now in
    steps-any-last (λ t. list_any (λ part. truth (is_down w faults) (is_shown_where w faults c.args.limit.now) (is_single_where w faults c.args.limit.now)
    (unfold_at part (later c.args.offset t))) c.args.parts.now) c.args.first c.args.last c.steps.step (omega arith) (omega arith) c.steps.invariant
