use Rattle.lf_outcome.proofs.MeasuresLemmas.{atoms-all, atoms-over}
use Rattle.lf_outcome.proofs.measure.+atoms.Goals as goal

pub atoms-returns-in-Over : goal.atoms-returns-in-Over
atoms-returns-in-Over g t c =
    atoms-over c.args.formula.now c.in-Over.every c.in-Over.first c.in-Over.last c.in-Over.parts c.as_slice.result.now c.all_atoms.result
    c.times.result c.in-Over.is c.as_slice.ensures c.all_atoms.ensures c.times.ensures

pub atoms-returns-in-All : goal.atoms-returns-in-All
atoms-returns-in-All g t c =
    atoms-all c.args.formula.now c.in-All.parts c.as_slice-in-All.result.now c.all_atoms-in-All.result
    c.in-All.is c.as_slice-in-All.ensures c.all_atoms-in-All.ensures
