use Rattle.std.proofs.Common.{inl, inr}
use Rattle.leastfault_sweep.proofs.asking.known.Goals as goal

pub returns-in-Err-clause-fault : goal.returns-in-Err-clause-fault
returns-in-Err-clause-fault c =
    elim c.fault_of.ensures [
      | inl w ↦ inl w.1
      | inr w ↦ inr (w.1, (c.in-Err.error, w.0, c.in-Err.ensures.reading w.0))
    ]
