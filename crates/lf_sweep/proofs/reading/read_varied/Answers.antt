use Rattle.lf_sweep.proofs.ReadingLemmas.{none_varied, varied_by_cut}
use Rattle.lf_sweep.proofs.reading.read_varied.Goals as goal

pub returns-in-Some-clause-none : goal.returns-in-Some-clause-none
returns-in-Some-clause-none c =
    none_varied c.args.text.now c.varied.result
    (varied_by_cut c.args.text.now c.in-Some.name.now c.in-Some.values.now c.in-Some.ensures c.varied.result c.varied.ensures)
