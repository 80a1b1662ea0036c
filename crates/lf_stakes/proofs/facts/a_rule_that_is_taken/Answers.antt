use Rattle.lf_stakes.proofs.Laws.{sometimes_taken}
use Rattle.lf_stakes.proofs.facts.a_rule_that_is_taken.Goals as goal

pub returns : goal.returns
returns c = λ k w b sets i count all there some. sometimes_taken k w b sets i count all there some
