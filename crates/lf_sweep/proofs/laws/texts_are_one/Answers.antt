use Rattle.lf_sweep.proofs.ExactLemmas.{text_once}
use Rattle.lf_sweep.proofs.laws.texts_are_one.Goals as goal

pub returns : goal.returns
returns c = text_once
