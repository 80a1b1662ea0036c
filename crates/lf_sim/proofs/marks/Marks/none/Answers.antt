use Rattle.lf_sim.proofs.MarksLemmas.{none-between, none-told}
use Rattle.lf_sim.proofs.marks.Marks.none.Goals as goal

pub invariant_of-result : goal.invariant_of-result
invariant_of-result c = record { told = none-told 400 50; between = none-between 400 4294967295 0 4294967295 0 }
