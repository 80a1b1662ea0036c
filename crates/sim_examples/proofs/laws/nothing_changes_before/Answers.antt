use Rattle.std.proofs.Common.{◌∷◌, arith}
use Rattle.sim_examples.proofs.Later.{SameUntil-cons}
use Rattle.sim_examples.proofs.laws.nothing_changes_before.Goals as goal

pub returns : goal.returns
returns g c w faults fault n t later =
    c.same_until.ensures.views w (fault ∷ faults) faults t (SameUntil-cons t fault faults later) n t (omega arith)
