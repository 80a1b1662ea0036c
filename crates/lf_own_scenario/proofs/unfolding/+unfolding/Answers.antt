use Rattle.std.proofs.Common.{◌≡◌, ◌≤◌, true, false, ◌+◌, ◌∷◌, ◌++◌, [], sym, ap, ◌∙◌, length, List, arith, rules}
use Rattle.std.specs.Prelude.{IfOk, Result, Ok, Err}
use Rattle.std.specs.List.{flat_map, list_all, range_with_len}
use Rattle.lf_outcome.specs.declared.formula.Formula.TheVariants as kind
use Rattle.lf_promises.specs.declared.promise.Promise.{Promise}
use Rattle.lf_own_scenario.specs.Spans.{spanned_at, all_spanned, is_span, is_steady, over_steps}
use Rattle.lf_own_scenario.proofs.ListLemmas.{flat-range-more}
use Rattle.lf_own_scenario.specs.Topics.{count_topics, count_all}
use Rattle.lf_own_scenario.proofs.TopicLemmas.{topics-All, topics-Any, topics-Always, topics-Ever, topics-One, count-on, count-within}
use Rattle.lf_own_scenario.proofs.SpanLemmas.{spanned-All, spanned-Any, spanned-Always, spanned-Ever, spanned-One, all_spanned-on, spans}
use Rattle.lf_own_scenario.proofs.unfolding.+unfolding.Goals as goal

pub formula_at-returns-in_ok-parts_at-in-All : goal.formula_at-returns-in_ok-parts_at-in-All
formula_at-returns-in_ok-parts_at-in-All t c = λ bound.
    let s = c.args.scene.now in
    let k = c.args.first in
    let u = c.args.step in
    let same : count_all c.as_slice.result.now ≡ count_topics c.args.promise.now =
    ap count_all c.as_slice.ensures ∙ ap length (sym (topics-All c.in-All.parts)) ∙ ap count_topics (sym c.in-All.is) in
    ap kind.All (c.in_ok-parts_at-in-All.ensures (omega (arith, same, bound)) ∙ ap (λ (ps : List Promise). all_spanned s k ps u) c.as_slice.ensures)
    ∙ sym (spanned-All s k c.in-All.parts u) ∙ ap (λ (p : Promise). spanned_at s k p u) (sym c.in-All.is)

pub formula_at-returns-in_ok-parts_at-in-Any : goal.formula_at-returns-in_ok-parts_at-in-Any
formula_at-returns-in_ok-parts_at-in-Any t c = λ bound.
    let s = c.args.scene.now in
    let k = c.args.first in
    let u = c.args.step in
    let same : count_all c.as_slice-in-Any.result.now ≡ count_topics c.args.promise.now =
    ap count_all c.as_slice-in-Any.ensures ∙ ap length (sym (topics-Any c.in-Any.parts)) ∙ ap count_topics (sym c.in-Any.is) in
    ap kind.Any (c.in_ok-parts_at-in-Any.ensures (omega (arith, same, bound)) ∙ ap (λ (ps : List Promise). all_spanned s k ps u) c.as_slice-in-Any.ensures)
    ∙ sym (spanned-Any s k c.in-Any.parts u) ∙ ap (λ (p : Promise). spanned_at s k p u) (sym c.in-Any.is)

if_ok-by : {A E : Type 0} (r : Result A E) (P Q : A → Type 0) → ((x : A) → P x → Q x) → IfOk r P → IfOk r Q
if_ok-by (Ok x) P Q h p = h x p
if_ok-by (Err e) P Q h p = p

pub formula_at-returns-in-Always : goal.formula_at-returns-in-Always
formula_at-returns-in-Always t c =
    let s = c.args.scene.now in
    let k = c.args.first in
    let u = c.args.step in
    let parts = c.as_slice-in-Always.result.now in
    let same : count_all parts ≡ count_topics c.args.promise.now =
    ap count_all c.as_slice-in-Always.ensures ∙ ap length (sym (topics-Always c.in-Always.parts)) ∙ ap count_topics (sym c.in-Always.is) in
    if_ok-by c.over_steps.result (λ f. k + count_all parts ≤ 256 → f ≡ spans s true k parts)
    (λ f. k + count_topics c.args.promise.now ≤ 256 → f ≡ spanned_at s k c.args.promise.now u)
    (λ f made bound. made (omega (arith, same, bound)) ∙ ap (λ (ps : List Promise). spans s true k ps) c.as_slice-in-Always.ensures
    ∙ sym (spanned-Always s k c.in-Always.parts u) ∙ ap (λ (p : Promise). spanned_at s k p u) (sym c.in-Always.is))
    c.over_steps.ensures

pub formula_at-returns-in-Ever : goal.formula_at-returns-in-Ever
formula_at-returns-in-Ever t c =
    let s = c.args.scene.now in
    let k = c.args.first in
    let u = c.args.step in
    let parts = c.as_slice-in-Ever.result.now in
    let same : count_all parts ≡ count_topics c.args.promise.now =
    ap count_all c.as_slice-in-Ever.ensures ∙ ap length (sym (topics-Ever c.in-Ever.parts)) ∙ ap count_topics (sym c.in-Ever.is) in
    if_ok-by c.over_steps-in-Ever.result (λ f. k + count_all parts ≤ 256 → f ≡ spans s false k parts)
    (λ f. k + count_topics c.args.promise.now ≤ 256 → f ≡ spanned_at s k c.args.promise.now u)
    (λ f made bound. made (omega (arith, same, bound)) ∙ ap (λ (ps : List Promise). spans s false k ps) c.as_slice-in-Ever.ensures
    ∙ sym (spanned-Ever s k c.in-Ever.parts u) ∙ ap (λ (p : Promise). spanned_at s k p u) (sym c.in-Ever.is))
    c.over_steps-in-Ever.ensures

pub over_steps-returns-in_ok-parts_at : goal.over_steps-returns-in_ok-parts_at
over_steps-returns-in_ok-parts_at t c = λ bound.
    let s = c.args.scene.now in
    let parts = c.args.parts.now in
    let so : is_span s.horizon (list_all is_steady parts) ≡ true = sym c.is_span.ensures ∙ c.if-is_span.true in
    ap (kind.Over c.args.every 1 s.horizon) (c.in_ok-parts_at.ensures bound)
    ∙ ap (λ b. over_steps c.args.every s.horizon b (all_spanned s c.args.first parts 0)
    (flat_map (all_spanned s c.args.first parts) (range_with_len 1 s.horizon))) (sym so)

pub formula_at-returns-in-One : goal.formula_at-returns-in-One
formula_at-returns-in-One t c = λ bound.
    let s = c.args.scene.now in
    let k = c.args.first in
    let u = c.args.step in
    let one : count_topics c.args.promise.now ≡ 1 = ap count_topics c.in-One.is ∙ ap length (topics-One c.in-One.field-0) in
    ap (kind.One s.nodes s.horizon) (c.number.ensures (omega (arith, one, bound)))
    ∙ sym (spanned-One s k c.in-One.field-0 u) ∙ ap (λ (p : Promise). spanned_at s k p u) (sym c.in-One.is)

pub parts_always-steps-preserved : goal.parts_always-steps-preserved
parts_always-steps-preserved t c = λ bound.
    flat-range-more (all_spanned c.args.scene.now c.args.first c.args.parts.now) 1 c.steps.before (c.steps.before + 1) c.steps.formulas.items
    c.put_parts.new.formulas.items (omega arith) (c.steps.invariant bound) (c.in_ok-put_parts.ensures bound)

pub put_parts-parts-preserved : goal.put_parts-parts-preserved
put_parts-parts-preserved t c = λ bound.
    let parts = c.args.parts.now in
    let i = c.parts.part-index in
    let part = c.part-item.result in
    let before = c.parts.invariant bound in
    let place = before.1 in
    let within = count-within parts i part c.parts-test.true c.part-item.is in
    let on = count-on parts i part c.parts-test.true c.part-item.is in
    let pushed : c.push.new.self.items ≡ c.parts.formulas.items ++ c.in_ok-formula.formula ∷ [] = search rules in
    let made = c.in_ok-formula.ensures (omega (arith, within, place, bound)) in (
      all_spanned-on c.args.scene.now parts i part c.parts-test.true c.part-item.is c.args.first c.parts.next c.args.step c.args.formulas.now.items
          c.parts.formulas.items c.push.new.self.items c.in_ok-formula.formula before.0 place made pushed,
      omega (arith, within, on, place, bound, c.count_topics.ensures, c.saturating_add-next.ensures),
    )
