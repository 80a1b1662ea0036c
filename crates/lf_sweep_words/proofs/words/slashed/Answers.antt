use Rattle.std.proofs.Common.{arith}
use Rattle.lf_sweep_words.proofs.Cuts.{cut_found}
use Rattle.lf_sweep_words.proofs.words.slashed.Goals as goal

pub returns : goal.returns
returns c = cut_found 47 c.args.word.now c.split_once.result (omega arith) c.split_once.ensures.cases
