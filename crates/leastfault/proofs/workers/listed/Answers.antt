use Rattle.std.proofs.Common.{Err, subst, sym}
use Rattle.std.specs.Arc.{arc_value}
use Rattle.leastfault.specs.declared.answering.Wanted.TheVariants as wanted
use Rattle.leastfault.specs.Searches.{IsEndFor, IsFoundFor}
use Rattle.leastfault.proofs.ReplyLemmas.{error_ends}
use Rattle.leastfault.proofs.workers.listed.Goals as goal

pub returns-in-Ok-All : goal.returns-in-Ok-All
returns-in-Ok-All g c = (
  subst (λ s. IsFoundFor wanted.AllLeast s c.in_ok-all_found-in-Ok-All.field-0) c.deref.ensures c.in_ok-all_found-in-Ok-All.ensures,
  c.in-Ok-All.ensures.workers,
)

pub returns-in-Ok-Full : goal.returns-in-Ok-Full
returns-in-Ok-Full g c = (
  subst (λ s. IsFoundFor wanted.AllLeast s c.in_ok-full_found-in-Ok-Full.field-0) c.deref-in-Ok-Full.ensures c.in_ok-full_found-in-Ok-Full.ensures.all,
  c.in-Ok-Full.ensures.workers,
)

pub returns : goal.returns
returns g c =
    subst (λ s. IsEndFor wanted.AllLeast c.args.workers s (Err c.fault_of.result)) c.in_ok-shared.ensures
    (subst (λ e. IsEndFor wanted.AllLeast c.args.workers (arc_value c.in_ok-shared.shared) (Err e)) (sym c.fault_of.ensures)
    (error_ends wanted.AllLeast c.args.workers (arc_value c.in_ok-shared.shared) c.in-Err.error c.in-Err.ensures.refused))
