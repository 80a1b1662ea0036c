use Rattle.lf_sweep_words.proofs.Cuts.{part_cut}
use Rattle.lf_sweep_words.proofs.words.parted.Goals as goal

pub returns-in-Some : goal.returns-in-Some
returns-in-Some c = part_cut c.args.word.now c.in-Some.which.now c.in-Some.parts.now c.part_by.result c.in-Some.ensures c.part_by.ensures
