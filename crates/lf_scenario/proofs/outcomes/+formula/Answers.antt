use Rattle.std.proofs.Common.{rules, ◌≡◌, [], ◌∷◌, ◌++◌, Ok, Err, ap, subst, sym, ◌∙◌, IfOk, IfErr}
use Rattle.toml.specs.View.{items_view}
use Rattle.std.specs.Prelude.{◌≢◌}
use Rattle.lf_outcome.specs.declared.formula.Formula.TheVariants as kind
use Rattle.lf_scenario.specs.declared.error.ScenarioError.TheVariants as refusals
use Rattle.lf_scenario.specs.Values.{◌>>=◌}
use Rattle.lf_scenario.specs.Outcomes.{by_word, down_in, parts_in, shows_in}
use Rattle.lf_scenario.proofs.FormulaLemmas.{at-all, at-any, at-down, at-none, at-shows, err_same, ok_same}
use Rattle.lf_scenario.proofs.FormulaLemmas.{formula_in-listed, formula_in-other, formula_in-unnamed, parts_in-last, parts_in-more, parts_in-wrong}
use Rattle.lf_scenario.proofs.outcomes.+formula.Goals as goal

pub formula_in-returns-in-String-clause-ok : goal.formula_in-returns-in-String-clause-ok
formula_in-returns-in-String-clause-ok t c =
    subst (λ r. IfOk c.by_word.result (λ f. r ≡ Ok f))
    (formula_in-listed c.args.described.now.protocol c.args.described.now.bounds c.args.value.now c.in-Array.items
    c.as_slice.result.now c.first-item.result c.in-String.word c.as_str.result.now
    (search rules) (search rules) (search rules) (search rules) (search rules) (search rules))
    c.by_word.ensures.ok

pub formula_in-returns-in-String-clause-err : goal.formula_in-returns-in-String-clause-err
formula_in-returns-in-String-clause-err t c =
    subst (λ r. IfErr c.by_word.result (λ e. e ≢ refusals.Memory → r ≡ Err e))
    (formula_in-listed c.args.described.now.protocol c.args.described.now.bounds c.args.value.now c.in-Array.items
    c.as_slice.result.now c.first-item.result c.in-String.word c.as_str.result.now
    (search rules) (search rules) (search rules) (search rules) (search rules) (search rules))
    c.by_word.ensures.err

pub formula_in-returns-in_default-clause-err : goal.formula_in-returns-in_default-clause-err
formula_in-returns-in_default-clause-err t c =
    let d = c.args.described.now in
    λ other. formula_in-other d.protocol d.bounds c.args.value.now c.in_default.not-Array

pub formula_in-returns-in_default-first-clause-err : goal.formula_in-returns-in_default-first-clause-err
formula_in-returns-in_default-first-clause-err t c =
    let d = c.args.described.now in
    λ other.
    formula_in-unnamed d.protocol d.bounds c.args.value.now c.in-Array.items c.as_slice.result.now c.first-item.result
    (search rules) (search rules) (search rules) (search rules) c.in_default-first.not-String

pub parts_in-returns-in_err-part-clause-err : goal.parts_in-returns-in_err-part-clause-err
parts_in-returns-in_err-part-clause-err t c =
    let d = c.args.described.now in
    let e = c.in_err-part.field-0.0 in
    let wrong : e ≢ refusals.Memory → parts_in d.protocol d.bounds (items_view c.args.items.now) ≡ Err e =
    λ other. parts_in-wrong d.protocol d.bounds c.args.items.now c.items.parts.items c.items.item-index _ c.items.invariant c.item-item.result e
    c.items-test.true c.item-item.is (c.in_err-part.ensures.err other) in
    search rules

pub parts_in-items-preserved : goal.parts_in-items-preserved
parts_in-items-preserved t c =
    let d = c.args.described.now in
    let pushed : c.push.new.self.items ≡ c.items.parts.items ++ c.in_ok-part.part ∷ [] = search rules in
    parts_in-more d.protocol d.bounds c.args.items.now c.items.parts.items c.items.item-index _ c.items.invariant c.push.new.self.items
    c.item-item.result c.in_ok-part.part c.items-test.true c.item-item.is c.in_ok-part.ensures.ok pushed

pub parts_in-returns-clause-ok : goal.parts_in-returns-clause-ok
parts_in-returns-clause-ok t c =
    let d = c.args.described.now in
    parts_in-last d.protocol d.bounds c.args.items.now c.items.parts.items c.items.item-index _ c.items.invariant c.items-test.false
    ∙ ap Ok (sym c.from_vec.ensures)

pub by_word-returns-in_err-parts_in-clause-err : goal.by_word-returns-in_err-parts_in-clause-err
by_word-returns-in_err-parts_in-clause-err t c =
    let d = c.args.described.now in
    let e = c.in_err-parts_in.field-0.0 in
    let wrong : e ≢ refusals.Memory → by_word c.args.word.now (parts_in d.protocol d.bounds (items_view c.args.rest.now))
    (down_in d.bounds (items_view c.args.rest.now))
    (shows_in d.protocol d.bounds (items_view c.args.rest.now)) ≡ Err e =
    λ other.
    at-all c.args.word.now (parts_in d.protocol d.bounds (items_view c.args.rest.now))
    (down_in d.bounds (items_view c.args.rest.now)) (shows_in d.protocol d.bounds (items_view c.args.rest.now))
    (sym c.eq.ensures ∙ c.if-eq.true) ∙ ap (λ r. r >>= (λ fs. Ok (kind.All fs))) (c.in_err-parts_in.ensures.err other) in
    search rules

pub by_word-returns-in_ok-parts_in-clause-ok : goal.by_word-returns-in_ok-parts_in-clause-ok
by_word-returns-in_ok-parts_in-clause-ok t c =
    let d = c.args.described.now in
    at-all c.args.word.now (parts_in d.protocol d.bounds (items_view c.args.rest.now))
    (down_in d.bounds (items_view c.args.rest.now)) (shows_in d.protocol d.bounds (items_view c.args.rest.now))
    (sym c.eq.ensures ∙ c.if-eq.true) ∙ ap (λ r. r >>= (λ fs. Ok (kind.All fs))) c.in_ok-parts_in.ensures.ok

pub by_word-returns-in_err-parts_in-2-clause-err : goal.by_word-returns-in_err-parts_in-2-clause-err
by_word-returns-in_err-parts_in-2-clause-err t c =
    let d = c.args.described.now in
    let e = c.in_err-parts_in-2.field-0.0 in
    let wrong : e ≢ refusals.Memory → by_word c.args.word.now (parts_in d.protocol d.bounds (items_view c.args.rest.now))
    (down_in d.bounds (items_view c.args.rest.now))
    (shows_in d.protocol d.bounds (items_view c.args.rest.now)) ≡ Err e =
    λ other.
    at-any c.args.word.now (parts_in d.protocol d.bounds (items_view c.args.rest.now))
    (down_in d.bounds (items_view c.args.rest.now)) (shows_in d.protocol d.bounds (items_view c.args.rest.now))
    (sym c.eq.ensures ∙ c.if-eq.false) (sym c.eq-else-eq.ensures ∙ c.if-eq-2.true)
    ∙ ap (λ r. r >>= (λ fs. Ok (kind.Any fs))) (c.in_err-parts_in-2.ensures.err other) in
    search rules

pub by_word-returns-in_ok-parts_in-2-clause-ok : goal.by_word-returns-in_ok-parts_in-2-clause-ok
by_word-returns-in_ok-parts_in-2-clause-ok t c =
    let d = c.args.described.now in
    at-any c.args.word.now (parts_in d.protocol d.bounds (items_view c.args.rest.now))
    (down_in d.bounds (items_view c.args.rest.now)) (shows_in d.protocol d.bounds (items_view c.args.rest.now))
    (sym c.eq.ensures ∙ c.if-eq.false) (sym c.eq-else-eq.ensures ∙ c.if-eq-2.true) ∙ ap (λ r. r >>= (λ fs. Ok (kind.Any fs))) c.in_ok-parts_in-2.ensures.ok

pub by_word-returns-then-eq-3-clause-ok : goal.by_word-returns-then-eq-3-clause-ok
by_word-returns-then-eq-3-clause-ok t c =
    let d = c.args.described.now in
    ok_same c.down_in.result _
    (at-down c.args.word.now (parts_in d.protocol d.bounds (items_view c.args.rest.now))
    (down_in d.bounds (items_view c.args.rest.now)) (shows_in d.protocol d.bounds (items_view c.args.rest.now))
    (sym c.eq.ensures ∙ c.if-eq.false) (sym c.eq-else-eq.ensures ∙ c.if-eq-2.false) (sym c.eq-else-eq-2.ensures ∙ c.if-eq-3.true) ∙ sym c.down_in.ensures)

pub by_word-returns-then-eq-3-clause-err : goal.by_word-returns-then-eq-3-clause-err
by_word-returns-then-eq-3-clause-err t c =
    let d = c.args.described.now in
    err_same c.down_in.result _
    (at-down c.args.word.now (parts_in d.protocol d.bounds (items_view c.args.rest.now))
    (down_in d.bounds (items_view c.args.rest.now)) (shows_in d.protocol d.bounds (items_view c.args.rest.now))
    (sym c.eq.ensures ∙ c.if-eq.false) (sym c.eq-else-eq.ensures ∙ c.if-eq-2.false) (sym c.eq-else-eq-2.ensures ∙ c.if-eq-3.true) ∙ sym c.down_in.ensures)

pub by_word-returns-then-eq-4-clause-ok : goal.by_word-returns-then-eq-4-clause-ok
by_word-returns-then-eq-4-clause-ok t c =
    let d = c.args.described.now in
    ok_same c.shows_in.result _
    (at-shows c.args.word.now (parts_in d.protocol d.bounds (items_view c.args.rest.now))
    (down_in d.bounds (items_view c.args.rest.now)) (shows_in d.protocol d.bounds (items_view c.args.rest.now))
    (sym c.eq.ensures ∙ c.if-eq.false) (sym c.eq-else-eq.ensures ∙ c.if-eq-2.false)
    (sym c.eq-else-eq-2.ensures ∙ c.if-eq-3.false) (sym c.eq-else-eq-3.ensures ∙ c.if-eq-4.true) ∙ sym c.shows_in.ensures)

pub by_word-returns-then-eq-4-clause-err : goal.by_word-returns-then-eq-4-clause-err
by_word-returns-then-eq-4-clause-err t c =
    let d = c.args.described.now in
    err_same c.shows_in.result _
    (at-shows c.args.word.now (parts_in d.protocol d.bounds (items_view c.args.rest.now))
    (down_in d.bounds (items_view c.args.rest.now)) (shows_in d.protocol d.bounds (items_view c.args.rest.now))
    (sym c.eq.ensures ∙ c.if-eq.false) (sym c.eq-else-eq.ensures ∙ c.if-eq-2.false)
    (sym c.eq-else-eq-2.ensures ∙ c.if-eq-3.false) (sym c.eq-else-eq-3.ensures ∙ c.if-eq-4.true) ∙ sym c.shows_in.ensures)

pub by_word-returns-else-eq-4-clause-err : goal.by_word-returns-else-eq-4-clause-err
by_word-returns-else-eq-4-clause-err t c =
    let d = c.args.described.now in
    λ other.
    at-none c.args.word.now (parts_in d.protocol d.bounds (items_view c.args.rest.now))
    (down_in d.bounds (items_view c.args.rest.now)) (shows_in d.protocol d.bounds (items_view c.args.rest.now))
    (sym c.eq.ensures ∙ c.if-eq.false) (sym c.eq-else-eq.ensures ∙ c.if-eq-2.false)
    (sym c.eq-else-eq-2.ensures ∙ c.if-eq-3.false) (sym c.eq-else-eq-3.ensures ∙ c.if-eq-4.false)
