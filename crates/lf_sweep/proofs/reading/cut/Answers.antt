use Rattle.lf_sweep.proofs.ReadingLemmas.{cut_found}
use Rattle.lf_sweep.proofs.reading.cut.Goals as goal

pub returns : goal.returns
returns c = cut_found c.args.at c.args.text.now c.split_once.result c.requires c.split_once.ensures.cases
