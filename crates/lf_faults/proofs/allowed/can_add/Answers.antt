use Rattle.std.proofs.lemmas.Bool.{false≢true, iff_false}
use Rattle.lf_faults.proofs.Allowing.{less_allowed}
use Rattle.lf_faults.proofs.allowed.can_add.Goals as goal

pub returns-then-not-admits : goal.returns-then-not-admits
returns-then-not-admits c = (
  λ h. absurd (false≢true h),
  λ can. absurd (iff_false c.admits.ensures c.if-not-admits.true (less_allowed c.args.spec.now c.args.set.now c.args.fault can.1)),
)
