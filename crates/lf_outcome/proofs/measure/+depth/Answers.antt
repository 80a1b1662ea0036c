use Rattle.lf_outcome.proofs.MeasuresLemmas.{depth-all, depth-over}
use Rattle.lf_outcome.proofs.measure.+depth.Goals as goal

pub depth-returns-then-first-last : goal.depth-returns-then-first-last
depth-returns-then-first-last g t c =
    depth-over c.args.formula.now c.in-Over.every c.in-Over.first c.in-Over.last c.in-Over.parts c.as_slice.result.now c.deepest.result
    c.saturating_add.result c.in-Over.is c.if-first-last.true c.as_slice.ensures c.deepest.ensures c.saturating_add.ensures

pub depth-returns-in-All : goal.depth-returns-in-All
depth-returns-in-All g t c =
    depth-all c.args.formula.now c.in-All.parts c.as_slice-in-All.result.now c.deepest-in-All.result c.saturating_add-in-All.result
    c.in-All.is c.as_slice-in-All.ensures c.deepest-in-All.ensures c.saturating_add-in-All.ensures
