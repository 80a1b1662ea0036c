use Rattle.lf_sweep_words.proofs.Refusing.{part_at}
use Rattle.lf_sweep_words.proofs.words.part_in.Goals as goal

pub returns-in-Some : goal.returns-in-Some
returns-in-Some c = part_at c.part_of.result _ c.in-Some.word.now c.in-Some.ensures c.part_of.ensures
