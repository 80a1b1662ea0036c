use Rattle.std.proofs.Common.{◌&&◌, ◌||◌, ◌≡◌, [], get_or, min, sym, ap, ◌∙◌, arith}
use Rattle.std.specs.List.{list_all, list_any}
use Rattle.std.proofs.lemmas.List.{take_all}
use Rattle.std.proofs.lemmas.List.Folds.{list_all_at, list_all_more, list_any_at, list_any_more}
use Rattle.lf_outcome.specs.Unfolding.{later}
use Rattle.lf_sim.specs.Runs.{is_up}
use Rattle.lf_sim.specs.Settings.{world_of}
use Rattle.lf_why.specs.Idle.{idle_world}
use Rattle.lf_why.proofs.IdleLemmas.{kept_all, kept_any, kept_at, kept_down, kept_every, kept_off, kept_one, kept_shown, kept_some}
use Rattle.lf_why.proofs.IdleLemmas.{parts_at, parts_over, some_step, starts_are}
use Rattle.lf_why.proofs.StepLoops.{steps-all-end, steps-all-last, steps-all-more, steps-all-wrong}
use Rattle.lf_why.proofs.StepLoops.{steps-any-end, steps-any-last, steps-any-more, steps-any-right}
use Rattle.lf_why.proofs.idle.+is_kept.Goals as goal

pub is_kept-returns-in-All : goal.is_kept-returns-in-All
is_kept-returns-in-All g t c =
    let w = world_of c.args.setting.now in
    kept_all w c.args.formula.now c.args.offset c.in-All.parts c.as_slice.result.now c.all_kept.result
    (c.by_cases.ensures.all (idle_world w) [] (parts_at w c.args.offset c.in-All.parts)) c.in-All.is c.as_slice.ensures c.all_kept.ensures

pub is_kept-returns-in-Any : goal.is_kept-returns-in-Any
is_kept-returns-in-Any g t c =
    let w = world_of c.args.setting.now in
    kept_any w c.args.formula.now c.args.offset c.in-Any.parts c.as_slice-in-Any.result.now c.any_kept.result
    (c.by_cases.ensures.any (idle_world w) [] (parts_at w c.args.offset c.in-Any.parts)) c.in-Any.is c.as_slice-in-Any.ensures c.any_kept.ensures

pub is_kept-returns-in-Down : goal.is_kept-returns-in-Down
is_kept-returns-in-Down g t c =
    let w = world_of c.args.setting.now in
    let n = c.in-Down.node in
    let s = c.later.result in
    kept_down w c.args.formula.now c.args.offset n c.in-Down.step s c.later.ensures c.up.result (c.by_cases.ensures.down (idle_world w) [] n s)
    c.in-Down.is (c.up.ensures.meaning w c.requires.run ∙ ap (λ faults. is_up w faults n s) c.requires.set)

pub is_kept-returns-then-up : goal.is_kept-returns-then-up
is_kept-returns-then-up g t c =
    let w = world_of c.args.setting.now in
    let n = c.in-Shows.node in
    let s = c.later-in-Shows.result in
    kept_shown w c.args.formula.now c.args.offset n c.in-Shows.step s c.later-in-Shows.ensures c.in-Shows.fact c.up-in-Shows.result
    (c.by_cases.ensures.shows (idle_world w) [] n s c.in-Shows.fact) c.in-Shows.is
    (c.up-in-Shows.ensures.meaning w c.requires.run ∙ ap (λ faults. is_up w faults n s) c.requires.set)
    c.shows.result c.start.result c.if-up.true c.start.ensures c.shows.ensures

pub is_kept-returns-else-up : goal.is_kept-returns-else-up
is_kept-returns-else-up g t c =
    let w = world_of c.args.setting.now in
    let n = c.in-Shows.node in
    let s = c.later-in-Shows.result in
    c.if-up.false ∙ kept_off w c.args.formula.now c.args.offset n c.in-Shows.step s c.later-in-Shows.ensures c.in-Shows.fact c.up-in-Shows.result
    (c.by_cases.ensures.shows (idle_world w) [] n s c.in-Shows.fact) c.in-Shows.is
    (c.up-in-Shows.ensures.meaning w c.requires.run ∙ ap (λ faults. is_up w faults n s) c.requires.set)
    c.if-up.false

pub is_kept-returns-else-last-eq0 : goal.is_kept-returns-else-last-eq0
is_kept-returns-else-last-eq0 g t c =
    let w = world_of c.args.setting.now in
    let nodes = c.in-One.nodes in
    let last = c.in-One.last in
    let topic = c.in-One.topic in
    let few : c.min-few.result ≡ min nodes w.rules.nodes = c.min-few.ensures ∙ ap (min nodes) (c.nodes.ensures.value ∙ c.requires.run.nodes) in
    kept_one w c.args.formula.now c.args.offset nodes last topic c.starts_agree.result (c.by_cases.ensures.one (idle_world w) [] nodes last topic)
    c.in-One.is
    (c.starts_agree.ensures
    ∙ starts_are w nodes last topic c.min-few.result few (some_step last c.if-last-eq0.false) (c.single_by_values.ensures.pairs (idle_world w) [] nodes last topic))

pub is_kept-returns-then-every : goal.is_kept-returns-then-every
is_kept-returns-then-every g t c =
    let w = world_of c.args.setting.now in
    kept_every w c.args.formula.now c.args.offset c.in-Over.parts c.as_slice-then-every.result.now c.all_over.result
    c.in-Over.every c.in-Over.first c.in-Over.last c.in-Over.is c.as_slice-then-every.ensures c.if-every.true
    (c.by_cases.ensures.all (idle_world w) [] (parts_over w c.args.offset c.in-Over.first c.in-Over.last c.in-Over.parts)) c.all_over.ensures

pub is_kept-returns-else-every : goal.is_kept-returns-else-every
is_kept-returns-else-every g t c =
    let w = world_of c.args.setting.now in
    kept_some w c.args.formula.now c.args.offset c.in-Over.parts c.as_slice-else-every.result.now c.any_over.result
    c.in-Over.every c.in-Over.first c.in-Over.last c.in-Over.is c.as_slice-else-every.ensures c.if-every.false
    (c.by_cases.ensures.any (idle_world w) [] (parts_over w c.args.offset c.in-Over.first c.in-Over.last c.in-Over.parts)) c.any_over.ensures

pub all_kept-all-preserved : goal.all_kept-all-preserved
all_kept-all-preserved g t c =
    let p = kept_at (world_of c.args.setting.now) c.args.offset in
    list_all_more p c.args.parts.now c.all.part-index c.part-item.result c.all-test.true
    ∙ ap (λ b. b && p (get_or c.args.parts.now c.all.part-index c.part-item.result)) c.all.invariant
    ∙ ap p (sym c.part-item.is) ∙ sym c.is_kept.ensures ∙ c.if-not-is_kept.false

pub all_kept-returns-then-not-is_kept : goal.all_kept-returns-then-not-is_kept
all_kept-returns-then-not-is_kept g t c =
    let p = kept_at (world_of c.args.setting.now) c.args.offset in
    sym (list_all_at p c.args.parts.now c.all.part-index c.part-item.result c.all-test.true
    (ap p (sym c.part-item.is) ∙ sym c.is_kept.ensures ∙ c.if-not-is_kept.true))

pub all_kept-returns : goal.all_kept-returns
all_kept-returns g t c =
    let p = kept_at (world_of c.args.setting.now) c.args.offset in
    sym c.all.invariant ∙ ap (list_all p) (take_all c.all.part-index c.args.parts.now (omega arith))

pub any_kept-any-preserved : goal.any_kept-any-preserved
any_kept-any-preserved g t c =
    let p = kept_at (world_of c.args.setting.now) c.args.offset in
    list_any_more p c.args.parts.now c.any.part-index c.part-item.result c.any-test.true
    ∙ ap (λ b. b || p (get_or c.args.parts.now c.any.part-index c.part-item.result)) c.any.invariant
    ∙ ap p (sym c.part-item.is) ∙ sym c.is_kept.ensures ∙ c.if-is_kept.false

pub any_kept-returns-then-is_kept : goal.any_kept-returns-then-is_kept
any_kept-returns-then-is_kept g t c =
    let p = kept_at (world_of c.args.setting.now) c.args.offset in
    sym (list_any_at p c.args.parts.now c.any.part-index c.part-item.result c.any-test.true
    (ap p (sym c.part-item.is) ∙ sym c.is_kept.ensures ∙ c.if-is_kept.true))

pub any_kept-returns : goal.any_kept-returns
any_kept-returns g t c =
    let p = kept_at (world_of c.args.setting.now) c.args.offset in
    sym c.any.invariant ∙ ap (list_any p) (take_all c.any.part-index c.args.parts.now (omega arith))

pub all_over-steps-preserved : goal.all_over-steps-preserved
all_over-steps-preserved g t c =
    let w = world_of c.args.setting.now in
    steps-all-more (λ t. list_all (kept_at w (later c.args.offset t)) c.args.parts.now) c.args.first c.args.last c.steps.step (omega arith)
    c.all_kept.result (omega arith) (c.all_kept.ensures ∙ ap (λ k. list_all (kept_at w k) c.args.parts.now) c.later.ensures)
    c.steps.invariant c.if-not-all_kept.false

pub all_over-returns-then-not-all_kept : goal.all_over-returns-then-not-all_kept
all_over-returns-then-not-all_kept g t c =
    let w = world_of c.args.setting.now in
    steps-all-wrong (λ t. list_all (kept_at w (later c.args.offset t)) c.args.parts.now) c.args.first c.args.last c.steps.step (omega arith)
    c.all_kept.result (omega arith) (c.all_kept.ensures ∙ ap (λ k. list_all (kept_at w k) c.args.parts.now) c.later.ensures)
    c.if-not-all_kept.true

pub all_over-returns-else-not-all_kept : goal.all_over-returns-else-not-all_kept
all_over-returns-else-not-all_kept g t c =
    let w = world_of c.args.setting.now in
    steps-all-end (λ t. list_all (kept_at w (later c.args.offset t)) c.args.parts.now) c.args.first c.args.last c.steps.step (omega arith)
    c.all_kept.result (omega arith) (c.all_kept.ensures ∙ ap (λ k. list_all (kept_at w k) c.args.parts.now) c.later.ensures)
    (omega arith) c.steps.invariant c.if-not-all_kept.false

pub all_over-returns : goal.all_over-returns
all_over-returns g t c =
    let w = world_of c.args.setting.now in
    steps-all-last (λ t. list_all (kept_at w (later c.args.offset t)) c.args.parts.now) c.args.first c.args.last c.steps.step (omega arith) (omega arith)
    c.steps.invariant

pub any_over-steps-preserved : goal.any_over-steps-preserved
any_over-steps-preserved g t c =
    let w = world_of c.args.setting.now in
    steps-any-more (λ t. list_any (kept_at w (later c.args.offset t)) c.args.parts.now) c.args.first c.args.last c.steps.step (omega arith)
    c.any_kept.result (omega arith) (c.any_kept.ensures ∙ ap (λ k. list_any (kept_at w k) c.args.parts.now) c.later.ensures)
    c.steps.invariant c.if-any_kept.false

pub any_over-returns-then-any_kept : goal.any_over-returns-then-any_kept
any_over-returns-then-any_kept g t c =
    let w = world_of c.args.setting.now in
    steps-any-right (λ t. list_any (kept_at w (later c.args.offset t)) c.args.parts.now) c.args.first c.args.last c.steps.step (omega arith)
    c.any_kept.result (omega arith) (c.any_kept.ensures ∙ ap (λ k. list_any (kept_at w k) c.args.parts.now) c.later.ensures)
    c.if-any_kept.true

pub any_over-returns-else-any_kept : goal.any_over-returns-else-any_kept
any_over-returns-else-any_kept g t c =
    let w = world_of c.args.setting.now in
    steps-any-end (λ t. list_any (kept_at w (later c.args.offset t)) c.args.parts.now) c.args.first c.args.last c.steps.step (omega arith)
    c.any_kept.result (omega arith) (c.any_kept.ensures ∙ ap (λ k. list_any (kept_at w k) c.args.parts.now) c.later.ensures)
    (omega arith) c.steps.invariant c.if-any_kept.false

pub any_over-returns : goal.any_over-returns
any_over-returns g t c =
    let w = world_of c.args.setting.now in
    steps-any-last (λ t. list_any (kept_at w (later c.args.offset t)) c.args.parts.now) c.args.first c.args.last c.steps.step (omega arith) (omega arith)
    c.steps.invariant
