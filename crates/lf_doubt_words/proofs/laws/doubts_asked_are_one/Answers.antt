use Rattle.lf_doubt_words.proofs.One.{asked_once}
use Rattle.lf_doubt_words.proofs.laws.doubts_asked_are_one.Goals as goal

pub returns : goal.returns
returns c = asked_once
