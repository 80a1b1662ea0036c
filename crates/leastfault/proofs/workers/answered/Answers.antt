use Rattle.std.proofs.Common.{Err, subst, sym}
use Rattle.std.specs.Arc.{arc_value}
use Rattle.leastfault.specs.declared.answering.Wanted.TheVariants as wanted
use Rattle.leastfault.specs.Searches.{IsEndFor, IsFoundFor}
use Rattle.leastfault.proofs.ReplyLemmas.{error_ends}
use Rattle.leastfault.proofs.workers.answered.Goals as goal

pub returns-in-Ok-Answer : goal.returns-in-Ok-Answer
returns-in-Ok-Answer g c = (
  subst (λ s. IsFoundFor wanted.Answer s c.in_ok-answer_found-in-Ok-Answer.field-0) c.deref.ensures c.in_ok-answer_found-in-Ok-Answer.ensures,
  c.in-Ok-Answer.ensures.workers,
)

pub returns-in-Ok-Full : goal.returns-in-Ok-Full
returns-in-Ok-Full g c = (
  subst (λ s. IsFoundFor wanted.Answer s c.in_ok-full_found-in-Ok-Full.field-0) c.deref-in-Ok-Full.ensures c.in_ok-full_found-in-Ok-Full.ensures.answer,
  c.in-Ok-Full.ensures.workers,
)

pub returns : goal.returns
returns g c =
    subst (λ s. IsEndFor wanted.Answer c.args.workers s (Err c.fault_of.result)) c.in_ok-shared.ensures
    (subst (λ e. IsEndFor wanted.Answer c.args.workers (arc_value c.in_ok-shared.shared) (Err e)) (sym c.fault_of.ensures)
    (error_ends wanted.Answer c.args.workers (arc_value c.in_ok-shared.shared) c.in-Err.error c.in-Err.ensures.refused))
