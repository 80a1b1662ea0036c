use Rattle.std.proofs.Common.{◌∙◌, Some, sym, ap}
use Rattle.std.proofs.lemmas.Result.{err_from_is_err_and}
use Rattle.lf_grammar.proofs.Steps.{onward, all-more, all-none, left-items, left-or, left-and, left-sum, left-term, more-end}
use Rattle.lf_grammar.proofs.Steps.{more-none, more-unfit, more-more, right-divided, right-left, denied-not, denied-none, denied-by, comparison-more}
use Rattle.lf_grammar.proofs.Steps.{comparison-none, compared-end, compared-none, compared-by, round-none, round-by, curly-empty, curly-none, curly-more}
use Rattle.lf_grammar.proofs.Steps.{call-unopened, call-none, call-more, second-single, second-none, second-by, item-more, item-none, range-only, range-on}
use Rattle.lf_grammar.proofs.Steps.{range-none, range-by, closed-by, closed-none, closed-made, closed-unfit, word-named, word-called, word-nowhere, atom-as}
use Rattle.lf_grammar.proofs.Steps.{atom-end}
use Rattle.lf_grammar.proofs.Steps.{alone-by, no-brackets, leaf-typed, leaf-untyped, named-alone, named-unfit, named-items, named-none, placed-none}
use Rattle.lf_grammar.proofs.Steps.{placed-by, members-none, members-unread, members-by, members-where, body-nowhere, body-none, body-by}
use Rattle.lf_grammar.proofs.Steps.{single-left, single-none, single-body}
use Rattle.lf_grammar.specs.Readings.{said}
use Rattle.lf_grammar.specs.Typing.{between}
use Rattle.lf_grammar.proofs.+reading.Goals as goal

pub expressions::read_all-returns-in_err-found-clause-read : goal.expressions::read_all-returns-in_err-found-clause-read
expressions::read_all-returns-in_err-found-clause-read t c =
    let p = err_from_is_err_and c.from_residual.result c.from_residual.ensures.1 in rw (p.1, p.2) (λ known. all-none (c.in_err-found.ensures.read known))

pub expressions::read_all-returns-clause-read : goal.expressions::read_all-returns-clause-read
expressions::read_all-returns-clause-read t c =
    onward (λ o b. all-more c.in_ok-found.ensures.read c.in_ok-found.ensures.shorter b) _ c.read_more.ensures.read

pub expressions::read_left-returns-in-Items-clause-read : goal.expressions::read_left-returns-in-Items-clause-read
expressions::read_left-returns-in-Items-clause-read t c =
    rw c.in-Items.is (onward (λ o b. left-items b) _ c.read_item.ensures.read)

pub expressions::read_left-returns-in-Or-clause-read : goal.expressions::read_left-returns-in-Or-clause-read
expressions::read_left-returns-in-Or-clause-read t c =
    rw c.in-Or.is (onward (λ o b. left-or b) _ c.read_all.ensures.read)

pub expressions::read_left-returns-in-And-clause-read : goal.expressions::read_left-returns-in-And-clause-read
expressions::read_left-returns-in-And-clause-read t c =
    rw c.in-And.is (onward (λ o b. left-and b) _ c.read_denied.ensures.read)

pub expressions::read_left-returns-in-Sum-clause-read : goal.expressions::read_left-returns-in-Sum-clause-read
expressions::read_left-returns-in-Sum-clause-read t c =
    rw c.in-Sum.is (onward (λ o b. left-sum b) _ c.read_all-in-Sum.ensures.read)

pub expressions::read_left-returns-in-Term-clause-read : goal.expressions::read_left-returns-in-Term-clause-read
expressions::read_left-returns-in-Term-clause-read t c =
    rw c.in-Term.is (onward (λ o b. left-term b) _ c.read_atom.ensures.read)

pub expressions::read_more-returns-in_err-other-in-Some-clause-read : goal.expressions::read_more-returns-in_err-other-in-Some-clause-read
expressions::read_more-returns-in_err-other-in-Some-clause-read t c =
    let p = err_from_is_err_and c.from_residual.result c.from_residual.ensures.1 in rw (p.1, p.2)
    (λ known. more-none c.in-Some.ensures.joint c.in-Some.ensures.shorter (c.in_err-other-in-Some.ensures.read known))

pub expressions::read_more-returns-in_err-both-in-Some-clause-read : goal.expressions::read_more-returns-in_err-both-in-Some-clause-read
expressions::read_more-returns-in_err-both-in-Some-clause-read t c =
    let p = err_from_is_err_and c.from_residual-in_err-both-in-Some.result c.from_residual-in_err-both-in-Some.ensures.1 in rw (p.1, p.2)
    (λ known. more-unfit c.in-Some.ensures.joint c.in-Some.ensures.shorter c.in_ok-other-in-Some.ensures.read (c.in_err-both-in-Some.ensures known))

pub expressions::read_more-returns-in_ok-both-in-Some-clause-read : goal.expressions::read_more-returns-in_ok-both-in-Some-clause-read
expressions::read_more-returns-in_ok-both-in-Some-clause-read t c =
    onward (λ o b. more-more c.in-Some.ensures.joint c.in-Some.ensures.shorter c.in_ok-other-in-Some.ensures.read c.in_ok-other-in-Some.ensures.shorter
    c.in_ok-both-in-Some.ensures b) _ c.read_more.ensures.read

pub expressions::read_more-returns-in-None-clause-read : goal.expressions::read_more-returns-in-None-clause-read
expressions::read_more-returns-in-None-clause-read t c =
    more-end c.in-None.ensures.joint

pub expressions::read_right-returns-in-Term-clause-read : goal.expressions::read_right-returns-in-Term-clause-read
expressions::read_right-returns-in-Term-clause-read t c =
    rw c.in-Term.is (right-divided _ _ _ c.read_divisor.ensures.read)

pub expressions::read_right-returns-in_default-clause-read : goal.expressions::read_right-returns-in_default-clause-read
expressions::read_right-returns-in_default-clause-read t c =
    onward (λ o b. right-left c.args.level c.in_default.not-Term b) _ c.read_left.ensures.read

pub expressions::read_denied-returns-in_err-found-in-Some-clause-read : goal.expressions::read_denied-returns-in_err-found-in-Some-clause-read
expressions::read_denied-returns-in_err-found-in-Some-clause-read t c =
    let p = err_from_is_err_and c.from_residual.result c.from_residual.ensures.1 in rw (p.1, p.2)
    (λ known. denied-none c.in-Some.ensures.behind c.in-Some.ensures.shorter (c.in_err-found-in-Some.ensures.read known))

pub expressions::read_denied-returns-in_err-unary-in-Some-clause-read : goal.expressions::read_denied-returns-in_err-unary-in-Some-clause-read
expressions::read_denied-returns-in_err-unary-in-Some-clause-read t c =
    let p = err_from_is_err_and c.from_residual-in_err-unary-in-Some.result c.from_residual-in_err-unary-in-Some.ensures.1 in rw (p.1, p.2)
    (λ known. denied-by c.in-Some.ensures.behind c.in-Some.ensures.shorter c.in_ok-found-in-Some.ensures.read (c.in_err-unary-in-Some.ensures known))

pub expressions::read_denied-returns-in_ok-unary-in-Some-clause-read : goal.expressions::read_denied-returns-in_ok-unary-in-Some-clause-read
expressions::read_denied-returns-in_ok-unary-in-Some-clause-read t c =
    denied-by c.in-Some.ensures.behind c.in-Some.ensures.shorter c.in_ok-found-in-Some.ensures.read c.in_ok-unary-in-Some.ensures

pub expressions::read_denied-returns-in-None-clause-read : goal.expressions::read_denied-returns-in-None-clause-read
expressions::read_denied-returns-in-None-clause-read t c =
    onward (λ o b. denied-not c.in-None.ensures.behind b) _ c.read_comparison.ensures.read

pub expressions::read_comparison-returns-in_err-one-clause-read : goal.expressions::read_comparison-returns-in_err-one-clause-read
expressions::read_comparison-returns-in_err-one-clause-read t c =
    let p = err_from_is_err_and c.from_residual.result c.from_residual.ensures.1 in rw (p.1, p.2) (λ known. comparison-none (c.in_err-one.ensures.read known))

pub expressions::read_comparison-returns-clause-read : goal.expressions::read_comparison-returns-clause-read
expressions::read_comparison-returns-clause-read t c =
    onward (λ o b. comparison-more c.in_ok-one.ensures.read c.in_ok-one.ensures.shorter b) _ c.read_compared.ensures.read

pub expressions::read_compared-returns-in_err-other-in-Some-clause-read : goal.expressions::read_compared-returns-in_err-other-in-Some-clause-read
expressions::read_compared-returns-in_err-other-in-Some-clause-read t c =
    let p = err_from_is_err_and c.from_residual.result c.from_residual.ensures.1 in rw (p.1, p.2)
    (λ known. compared-none c.in-Some.ensures.behind c.in-Some.ensures.shorter (c.in_err-other-in-Some.ensures.read known))

pub expressions::read_compared-returns-in_err-compared-in-Some-clause-read : goal.expressions::read_compared-returns-in_err-compared-in-Some-clause-read
expressions::read_compared-returns-in_err-compared-in-Some-clause-read t c =
    let p = err_from_is_err_and c.from_residual-in_err-compared-in-Some.result c.from_residual-in_err-compared-in-Some.ensures.1 in rw (p.1, p.2)
    (λ known. compared-by c.in-Some.ensures.behind c.in-Some.ensures.shorter c.in_ok-other-in-Some.ensures.read (c.in_err-compared-in-Some.ensures known))

pub expressions::read_compared-returns-in_ok-compared-in-Some-clause-read : goal.expressions::read_compared-returns-in_ok-compared-in-Some-clause-read
expressions::read_compared-returns-in_ok-compared-in-Some-clause-read t c =
    compared-by c.in-Some.ensures.behind c.in-Some.ensures.shorter c.in_ok-other-in-Some.ensures.read c.in_ok-compared-in-Some.ensures

pub expressions::read_compared-returns-in-None-clause-read : goal.expressions::read_compared-returns-in-None-clause-read
expressions::read_compared-returns-in-None-clause-read t c =
    compared-end c.in-None.ensures.behind

pub atoms::read_item-returns-in_err-one-clause-read : goal.atoms::read_item-returns-in_err-one-clause-read
atoms::read_item-returns-in_err-one-clause-read t c =
    let p = err_from_is_err_and c.from_residual.result c.from_residual.ensures.1 in rw (p.1, p.2) (λ known. item-none (c.in_err-one.ensures.read known))

pub atoms::read_item-returns-clause-read : goal.atoms::read_item-returns-clause-read
atoms::read_item-returns-clause-read t c =
    onward (λ o b. item-more c.in_ok-one.ensures.read c.in_ok-one.ensures.shorter b) _ c.read_range.ensures.read

pub atoms::read_round-returns-in_err-found-clause-read : goal.atoms::read_round-returns-in_err-found-clause-read
atoms::read_round-returns-in_err-found-clause-read t c =
    let p = err_from_is_err_and c.from_residual.result c.from_residual.ensures.1 in rw (p.1, p.2) (λ known. round-none (c.in_err-found.ensures.read known))

pub atoms::read_round-returns-in_err-past_sign-clause-read : goal.atoms::read_round-returns-in_err-past_sign-clause-read
atoms::read_round-returns-in_err-past_sign-clause-read t c =
    let p = err_from_is_err_and c.from_residual-in_err-past_sign.result c.from_residual-in_err-past_sign.ensures.1 in rw (p.1, p.2)
    (λ known. round-by c.in_ok-found.ensures.read (closed-none _ (Some (said c.in_ok-found.found)) _ c.in_err-past_sign.ensures.behind.1))

pub atoms::read_round-returns-clause-read : goal.atoms::read_round-returns-clause-read
atoms::read_round-returns-clause-read t c =
    round-by c.in_ok-found.ensures.read (closed-by _ (Some (said c.in_ok-found.found)) _ c.in_ok-past_sign.ensures.behind)

pub atoms::read_set-returns-in-Some-clause-read : goal.atoms::read_set-returns-in-Some-clause-read
atoms::read_set-returns-in-Some-clause-read t c =
    rw c.leaf.ensures (curly-empty c.in-Some.ensures.behind)

pub calls::read_call-returns-in_err-inner-clause-read : goal.calls::read_call-returns-in_err-inner-clause-read
calls::read_call-returns-in_err-inner-clause-read t c =
    let p = err_from_is_err_and c.from_residual.result c.from_residual.ensures.1 in rw (p.1, p.2) (λ known. call-unopened c.in_err-inner.ensures.behind.1)

pub calls::read_call-returns-in_err-one-clause-read : goal.calls::read_call-returns-in_err-one-clause-read
calls::read_call-returns-in_err-one-clause-read t c =
    let p = err_from_is_err_and c.from_residual-in_err-one.result c.from_residual-in_err-one.ensures.1 in rw (p.1, p.2)
    (λ known. call-none c.in_ok-inner.ensures.behind c.in_ok-inner.ensures.shorter (c.in_err-one.ensures.read known))

pub calls::read_call-returns-clause-read : goal.calls::read_call-returns-clause-read
calls::read_call-returns-clause-read t c =
    onward (λ o b. call-more c.in_ok-inner.ensures.behind c.in_ok-inner.ensures.shorter c.in_ok-one.ensures.read c.in_ok-one.ensures.shorter b) _
    c.read_second.ensures.read

pub calls::read_second-returns-in_err-other-in-Some-clause-read : goal.calls::read_second-returns-in_err-other-in-Some-clause-read
calls::read_second-returns-in_err-other-in-Some-clause-read t c =
    let p = err_from_is_err_and c.from_residual.result c.from_residual.ensures.1 in rw (p.1, p.2)
    (λ known. second-none c.in-Some.ensures.behind c.in-Some.ensures.shorter (c.in_err-other-in-Some.ensures.read known))

pub calls::read_second-returns-in_err-end-in-Some-clause-read : goal.calls::read_second-returns-in_err-end-in-Some-clause-read
calls::read_second-returns-in_err-end-in-Some-clause-read t c =
    let p = err_from_is_err_and c.from_residual-in_err-end-in-Some.result c.from_residual-in_err-end-in-Some.ensures.1 in rw (p.1, p.2)
    (λ known. second-by c.in-Some.ensures.behind c.in-Some.ensures.shorter c.in_ok-other-in-Some.ensures.read
    (closed-none _ _ _ c.in_err-end-in-Some.ensures.behind.1))

pub calls::read_second-returns-in_err-by_call-in-Some-clause-read : goal.calls::read_second-returns-in_err-by_call-in-Some-clause-read
calls::read_second-returns-in_err-by_call-in-Some-clause-read t c =
    let p = err_from_is_err_and c.from_residual-in_err-by_call-in-Some.result c.from_residual-in_err-by_call-in-Some.ensures.1 in rw (p.1, p.2)
    (λ known. second-by c.in-Some.ensures.behind c.in-Some.ensures.shorter c.in_ok-other-in-Some.ensures.read
    (closed-unfit _ _ c.in_ok-end-in-Some.ensures.behind (c.in_err-by_call-in-Some.ensures known)))

pub calls::read_second-returns-in_ok-by_call-in-Some-clause-read : goal.calls::read_second-returns-in_ok-by_call-in-Some-clause-read
calls::read_second-returns-in_ok-by_call-in-Some-clause-read t c =
    second-by c.in-Some.ensures.behind c.in-Some.ensures.shorter c.in_ok-other-in-Some.ensures.read
    (closed-made _ _ c.in_ok-end-in-Some.ensures.behind c.in_ok-by_call-in-Some.ensures)

pub atoms::read_range-returns-in_err-only-clause-read : goal.atoms::read_range-returns-in_err-only-clause-read
atoms::read_range-returns-in_err-only-clause-read t c =
    let p = err_from_is_err_and c.from_residual.result c.from_residual.ensures.1 in rw (p.1, p.2)
    (λ known. range-only c.in_default.ensures.behind (c.in_err-only.ensures known))

pub atoms::read_range-returns-in_default-clause-read : goal.atoms::read_range-returns-in_default-clause-read
atoms::read_range-returns-in_default-clause-read t c =
    range-only c.in_default.ensures.behind c.in_ok-only.ensures

pub atoms::read_range-returns-in_err-between-clause-read : goal.atoms::read_range-returns-in_err-between-clause-read
atoms::read_range-returns-in_err-between-clause-read t c =
    let p = err_from_is_err_and c.from_residual-in_err-between.result c.from_residual-in_err-between.ensures.1 in rw (p.1, p.2)
    (λ known. range-on c.in-Some.ensures.behind (sym c.ends_item.ensures ∙ c.if-ends_item.true)
    (sym (ap (between (said c.args.one)) c.how_many.ensures) ∙ c.in_err-between.ensures known))

pub atoms::read_range-returns-then-ends_item-clause-read : goal.atoms::read_range-returns-then-ends_item-clause-read
atoms::read_range-returns-then-ends_item-clause-read t c =
    range-on c.in-Some.ensures.behind (sym c.ends_item.ensures ∙ c.if-ends_item.true)
    (sym (ap (between (said c.args.one)) c.how_many.ensures) ∙ c.in_ok-between.ensures)

pub atoms::read_range-returns-in_err-last-clause-read : goal.atoms::read_range-returns-in_err-last-clause-read
atoms::read_range-returns-in_err-last-clause-read t c =
    let p = err_from_is_err_and c.from_residual-in_err-last.result c.from_residual-in_err-last.ensures.1 in rw (p.1, p.2)
    (λ known. range-none c.in-Some.ensures.behind c.in-Some.ensures.shorter (sym c.ends_item.ensures ∙ c.if-ends_item.false)
    (c.in_err-last.ensures.read known))

pub atoms::read_range-returns-in_err-between-2-clause-read : goal.atoms::read_range-returns-in_err-between-2-clause-read
atoms::read_range-returns-in_err-between-2-clause-read t c =
    let p = err_from_is_err_and c.from_residual-in_err-between-2.result c.from_residual-in_err-between-2.ensures.1 in rw (p.1, p.2)
    (λ known. range-by c.in-Some.ensures.behind c.in-Some.ensures.shorter (sym c.ends_item.ensures ∙ c.if-ends_item.false) c.in_ok-last.ensures.read
    (c.in_err-between-2.ensures known))

pub atoms::read_range-returns-clause-read : goal.atoms::read_range-returns-clause-read
atoms::read_range-returns-clause-read t c =
    range-by c.in-Some.ensures.behind c.in-Some.ensures.shorter (sym c.ends_item.ensures ∙ c.if-ends_item.false) c.in_ok-last.ensures.read
    c.in_ok-between-2.ensures

pub atoms::read_atom-returns-in-Number-clause-read : goal.atoms::read_atom-returns-in-Number-clause-read
atoms::read_atom-returns-in-Number-clause-read t c =
    rw c.leaf.ensures (atom-as c.in-Some.ensures.cases.0 c.in-Number.is alone-by)

pub atoms::read_atom-returns-in-Word-clause-read : goal.atoms::read_atom-returns-in-Word-clause-read
atoms::read_atom-returns-in-Word-clause-read t c =
    onward (λ o b. atom-as c.in-Some.ensures.cases.0 c.in-Word.is b) _ (rw c.as_str.ensures at c.read_word.ensures.read)

pub atoms::read_atom-returns-in-Sign-clause-read : goal.atoms::read_atom-returns-in-Sign-clause-read
atoms::read_atom-returns-in-Sign-clause-read t c =
    onward (λ o b. atom-as c.in-Some.ensures.cases.0 c.in-Sign.is b) _ c.read_brackets.ensures.read

pub atoms::read_atom-returns-in_default-clause-read : goal.atoms::read_atom-returns-in_default-clause-read
atoms::read_atom-returns-in_default-clause-read t c =
    λ known. atom-end _ c.in_default.ensures.cases

pub atoms::read_brackets-returns-in-OpenRound-clause-read : goal.atoms::read_brackets-returns-in-OpenRound-clause-read
atoms::read_brackets-returns-in-OpenRound-clause-read t c =
    rw c.in-OpenRound.is c.read_round.ensures.read

pub atoms::read_brackets-returns-in-OpenCurly-clause-read : goal.atoms::read_brackets-returns-in-OpenCurly-clause-read
atoms::read_brackets-returns-in-OpenCurly-clause-read t c =
    rw c.in-OpenCurly.is c.read_set.ensures.read

pub atoms::read_brackets-returns-in_default-clause-read : goal.atoms::read_brackets-returns-in_default-clause-read
atoms::read_brackets-returns-in_default-clause-read t c =
    λ known. no-brackets c.args.sign c.in_default.not-OpenRound c.in_default.not-OpenCurly

pub atoms::read_word-returns-in-Some-clause-read : goal.atoms::read_word-returns-in-Some-clause-read
atoms::read_word-returns-in-Some-clause-read t c =
    onward (λ o b. word-named c.args.word.now (sym c.leaf.ensures ∙ c.in-Some.is) b) _ c.read_named.ensures.read

pub atoms::read_word-returns-in-None-called-clause-read : goal.atoms::read_word-returns-in-None-called-clause-read
atoms::read_word-returns-in-None-called-clause-read t c =
    λ known. word-nowhere c.args.word.now (sym c.leaf.ensures ∙ c.in-None.is) (sym c.called.ensures ∙ c.in-None-called.is)

pub atoms::read_word-returns-in-Some-called-clause-read : goal.atoms::read_word-returns-in-Some-called-clause-read
atoms::read_word-returns-in-Some-called-clause-read t c =
    onward (λ o b. word-called c.args.word.now (sym c.leaf.ensures ∙ c.in-None.is) (sym c.called.ensures ∙ c.in-Some-called.is) b) _ c.read_call.ensures.read

pub atoms::read_named-returns-in-Some-row-clause-read : goal.atoms::read_named-returns-in-Some-row-clause-read
atoms::read_named-returns-in-Some-row-clause-read t c =
    onward (λ o b. named-items c.in-Some.ensures.behind c.in-Some.ensures.shorter (sym c.row.ensures ∙ c.in-Some-row.is) b) _ c.read_place.ensures.read

pub atoms::read_named-returns-in-None-row-clause-read : goal.atoms::read_named-returns-in-None-row-clause-read
atoms::read_named-returns-in-None-row-clause-read t c =
    λ known. named-none c.in-Some.ensures.behind (sym c.row.ensures ∙ c.in-None-row.is)

pub atoms::read_named-returns-in-Some-leaf_sort-clause-read : goal.atoms::read_named-returns-in-Some-leaf_sort-clause-read
atoms::read_named-returns-in-Some-leaf_sort-clause-read t c =
    rw c.leaf.ensures (named-alone c.in-None.ensures.behind (leaf-typed _ (sym c.leaf_sort.ensures ∙ c.in-Some-leaf_sort.is)))

pub atoms::read_named-returns-in-None-leaf_sort-clause-read : goal.atoms::read_named-returns-in-None-leaf_sort-clause-read
atoms::read_named-returns-in-None-leaf_sort-clause-read t c =
    λ known. named-unfit c.in-None.ensures.behind (leaf-untyped _ (sym c.leaf_sort.ensures ∙ c.in-None-leaf_sort.is))

pub atoms::read_place-returns-in_err-at-clause-read : goal.atoms::read_place-returns-in_err-at-clause-read
atoms::read_place-returns-in_err-at-clause-read t c =
    let p = err_from_is_err_and c.from_residual.result c.from_residual.ensures.1 in rw (p.1, p.2)
    (λ known. placed-none (c.in_err-at.ensures.read known))

pub atoms::read_place-returns-in_err-end-clause-read : goal.atoms::read_place-returns-in_err-end-clause-read
atoms::read_place-returns-in_err-end-clause-read t c =
    let p = err_from_is_err_and c.from_residual-in_err-end.result c.from_residual-in_err-end.ensures.1 in rw (p.1, p.2)
    (λ known. placed-by c.in_ok-at.ensures.read (closed-none _ _ _ c.in_err-end.ensures.behind.1))

pub atoms::read_place-returns-in_err-at_place-clause-read : goal.atoms::read_place-returns-in_err-at_place-clause-read
atoms::read_place-returns-in_err-at_place-clause-read t c =
    let p = err_from_is_err_and c.from_residual-in_err-at_place.result c.from_residual-in_err-at_place.ensures.1 in rw (p.1, p.2)
    (λ known. placed-by c.in_ok-at.ensures.read (closed-unfit _ _ c.in_ok-end.ensures.behind (c.in_err-at_place.ensures known)))

pub atoms::read_place-returns-clause-read : goal.atoms::read_place-returns-clause-read
atoms::read_place-returns-clause-read t c =
    placed-by c.in_ok-at.ensures.read (closed-made _ _ c.in_ok-end.ensures.behind c.in_ok-at_place.ensures)

pub atoms::read_set-returns-in_err-one-in-None-clause-read : goal.atoms::read_set-returns-in_err-one-in-None-clause-read
atoms::read_set-returns-in_err-one-in-None-clause-read t c =
    let p = err_from_is_err_and c.from_residual.result c.from_residual.ensures.1 in rw (p.1, p.2)
    (λ known. curly-none c.in-None.ensures.behind (c.in_err-one-in-None.ensures.read known))

pub atoms::read_set-returns-in_err-found-in-None-clause-read : goal.atoms::read_set-returns-in_err-found-in-None-clause-read
atoms::read_set-returns-in_err-found-in-None-clause-read t c =
    let p = err_from_is_err_and c.from_residual-in_err-found-in-None.result c.from_residual-in_err-found-in-None.ensures.1 in rw (p.1, p.2)
    (λ known. curly-more c.in-None.ensures.behind c.in_ok-one-in-None.ensures.read c.in_ok-one-in-None.ensures.shorter
    (c.in_err-found-in-None.ensures.read known))

pub atoms::read_set-returns-in_ok-found-in-None-clause-read : goal.atoms::read_set-returns-in_ok-found-in-None-clause-read
atoms::read_set-returns-in_ok-found-in-None-clause-read t c =
    curly-more c.in-None.ensures.behind c.in_ok-one-in-None.ensures.read c.in_ok-one-in-None.ensures.shorter c.in_ok-found-in-None.ensures.read

pub atoms::read_members-returns-in-Some-clause-read : goal.atoms::read_members-returns-in-Some-clause-read
atoms::read_members-returns-in-Some-clause-read t c =
    onward (λ o b. members-where c.in-Some.ensures.behind c.in-Some.ensures.shorter b) _ c.read_body.ensures.read

pub atoms::read_members-returns-in_err-first-in-None-clause-read : goal.atoms::read_members-returns-in_err-first-in-None-clause-read
atoms::read_members-returns-in_err-first-in-None-clause-read t c =
    let p = err_from_is_err_and c.from_residual.result c.from_residual.ensures.1 in rw (p.1, p.2)
    (λ known. members-none c.in-None.ensures.behind (c.in_err-first-in-None.ensures.read known))

pub atoms::read_members-returns-in_err-found-in-None-clause-read : goal.atoms::read_members-returns-in_err-found-in-None-clause-read
atoms::read_members-returns-in_err-found-in-None-clause-read t c =
    let p = err_from_is_err_and c.from_residual-in_err-found-in-None.result c.from_residual-in_err-found-in-None.ensures.1 in rw (p.1, p.2)
    (λ known. members-unread c.in-None.ensures.behind c.in_ok-first-in-None.ensures.read c.in_ok-first-in-None.ensures.shorter
    (c.in_err-found-in-None.ensures.read known))

pub atoms::read_members-returns-in_err-past_sign-in-None-clause-read : goal.atoms::read_members-returns-in_err-past_sign-in-None-clause-read
atoms::read_members-returns-in_err-past_sign-in-None-clause-read t c =
    let p = err_from_is_err_and c.from_residual-in_err-past_sign-in-None.result c.from_residual-in_err-past_sign-in-None.ensures.1 in rw (p.1, p.2)
    (λ known. members-by c.in-None.ensures.behind c.in_ok-first-in-None.ensures.read c.in_ok-first-in-None.ensures.shorter
    c.in_ok-found-in-None.ensures.read (closed-none _ (Some (said c.in_ok-found-in-None.found)) _ c.in_err-past_sign-in-None.ensures.behind.1))

pub atoms::read_members-returns-in_ok-past_sign-in-None-clause-read : goal.atoms::read_members-returns-in_ok-past_sign-in-None-clause-read
atoms::read_members-returns-in_ok-past_sign-in-None-clause-read t c =
    members-by c.in-None.ensures.behind c.in_ok-first-in-None.ensures.read c.in_ok-first-in-None.ensures.shorter
    c.in_ok-found-in-None.ensures.read (closed-by _ (Some (said c.in_ok-found-in-None.found)) _ c.in_ok-past_sign-in-None.ensures.behind)

pub bodies::read_body-returns-in_default-clause-read : goal.bodies::read_body-returns-in_default-clause-read
bodies::read_body-returns-in_default-clause-read t c =
    λ known. body-nowhere c.in_default.ensures

pub bodies::read_body-returns-in_err-value-clause-read : goal.bodies::read_body-returns-in_err-value-clause-read
bodies::read_body-returns-in_err-value-clause-read t c =
    let p = err_from_is_err_and c.from_residual.result c.from_residual.ensures.1 in rw (p.1, p.2)
    (λ known. body-none c.in-Some.ensures (rw c.level_of.ensures at (c.in_err-value.ensures.read known)))

pub bodies::read_body-returns-in_err-end-clause-read : goal.bodies::read_body-returns-in_err-end-clause-read
bodies::read_body-returns-in_err-end-clause-read t c =
    let p = err_from_is_err_and c.from_residual-in_err-end.result c.from_residual-in_err-end.ensures.1 in rw (p.1, p.2)
    (λ known. body-by c.in-Some.ensures (rw c.level_of.ensures at c.in_ok-value.ensures.read)
    (closed-none _ _ _ (rw c.end_of.ensures at c.in_err-end.ensures.behind.1)))

pub bodies::read_body-returns-in_err-over_set-clause-read : goal.bodies::read_body-returns-in_err-over_set-clause-read
bodies::read_body-returns-in_err-over_set-clause-read t c =
    let p = err_from_is_err_and c.from_residual-in_err-over_set.result c.from_residual-in_err-over_set.ensures.1 in rw (p.1, p.2)
    (λ known. body-by c.in-Some.ensures (rw c.level_of.ensures at c.in_ok-value.ensures.read)
    (closed-unfit _ _ (rw c.end_of.ensures at c.in_ok-end.ensures.behind) (c.in_err-over_set.ensures known)))

pub bodies::read_body-returns-clause-read : goal.bodies::read_body-returns-clause-read
bodies::read_body-returns-clause-read t c =
    body-by c.in-Some.ensures (rw c.level_of.ensures at c.in_ok-value.ensures.read)
    (closed-made _ _ (rw c.end_of.ensures at c.in_ok-end.ensures.behind) c.in_ok-over_set.ensures)

pub calls::read_second-returns-in-None-clause-read : goal.calls::read_second-returns-in-None-clause-read
calls::read_second-returns-in-None-clause-read t c =
    onward (λ o b. second-single c.in-None.ensures.behind b) _ c.read_single.ensures.read

pub calls::read_single-returns-in_err-end-clause-read : goal.calls::read_single-returns-in_err-end-clause-read
calls::read_single-returns-in_err-end-clause-read t c =
    let p = err_from_is_err_and c.from_residual.result c.from_residual.ensures.1 in rw (p.1, p.2)
    (λ known. single-left c.in_default.ensures.behind (closed-none _ _ _ c.in_err-end.ensures.behind.1))

pub calls::read_single-returns-in_err-by_call-clause-read : goal.calls::read_single-returns-in_err-by_call-clause-read
calls::read_single-returns-in_err-by_call-clause-read t c =
    let p = err_from_is_err_and c.from_residual-in_err-by_call.result c.from_residual-in_err-by_call.ensures.1 in rw (p.1, p.2)
    (λ known. single-left c.in_default.ensures.behind (closed-unfit _ _ c.in_ok-end.ensures.behind (c.in_err-by_call.ensures known)))

pub calls::read_single-returns-in_default-clause-read : goal.calls::read_single-returns-in_default-clause-read
calls::read_single-returns-in_default-clause-read t c =
    single-left c.in_default.ensures.behind (closed-made _ _ c.in_ok-end.ensures.behind c.in_ok-by_call.ensures)

pub calls::read_single-returns-in-Some-of_body-clause-read : goal.calls::read_single-returns-in-Some-of_body-clause-read
calls::read_single-returns-in-Some-of_body-clause-read t c =
    onward (λ o b. single-body c.in-Some.ensures.behind c.in-Some.ensures.shorter (sym c.of_body.ensures ∙ c.in-Some-of_body.is) b) _ c.read_body.ensures.read

pub calls::read_single-returns-in-None-clause-read : goal.calls::read_single-returns-in-None-clause-read
calls::read_single-returns-in-None-clause-read t c =
    λ known. single-none c.in-Some.ensures.behind (sym c.of_body.ensures ∙ c.in-None.is)
