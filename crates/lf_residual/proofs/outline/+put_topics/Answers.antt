use Rattle.std.proofs.Common.{◌++◌, ap, ◌∙◌, inl, inr}
use Rattle.std.proofs.lemmas.Result.{IfOk-weaker}
use Rattle.lf_residual.proofs.OutlineLemmas.{topics-from}
use Rattle.lf_residual.proofs.outline.+put_topics.Goals as goal

pub put_topics-returns-in-All : goal.put_topics-returns-in-All
put_topics-returns-in-All t c =
    IfOk-weaker c.put_all_topics.result _ _
    (λ done is.
    is ∙ ap (λ xs. c.args.topics.now.items ++ xs)
    (topics-from c.args.formula.now c.in-All.own c.as_slice.result.now (inl c.in-All.is) c.as_slice.ensures))
    c.put_all_topics.ensures

pub put_topics-returns-in-Any : goal.put_topics-returns-in-Any
put_topics-returns-in-Any t c =
    IfOk-weaker c.put_all_topics-in-Any.result _ _
    (λ done is.
    is ∙ ap (λ xs. c.args.topics.now.items ++ xs)
    (topics-from c.args.formula.now c.in-Any.own c.as_slice-in-Any.result.now (inr c.in-Any.is) c.as_slice-in-Any.ensures))
    c.put_all_topics-in-Any.ensures
