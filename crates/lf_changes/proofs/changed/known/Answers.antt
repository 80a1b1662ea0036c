use Rattle.std.proofs.Common.{inl, inr}
use Rattle.lf_changes.proofs.changed.known.Goals as goal

pub returns-in-Err-clause-cause : goal.returns-in-Err-clause-cause
returns-in-Err-clause-cause c =
    elim c.fault_of.ensures [
      | inl w ↦ inl w.1
      | inr w ↦ inr (w.1, (c.in-Err.error, w.0, c.in-Err.ensures.reading w.0))
    ]
