use Rattle.std.proofs.Common.{inl}
use Rattle.lf_sim.proofs.change.Change.mark_note.Goals as goal

pub returns-then-differs-clause-same : goal.returns-then-differs-clause-same
returns-then-differs-clause-same g c from to apart last early free = inl (c.mark_arrival.ensures.marked from to last early free)
