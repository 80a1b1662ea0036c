use Rattle.lf_sweep_words.proofs.One.{asked_once}
use Rattle.lf_sweep_words.proofs.facts.sweeps_asked_are_one.Goals as goal

pub returns : goal.returns
returns c = asked_once
