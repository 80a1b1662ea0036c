use Rattle.lf_stakes.proofs.Laws.{never_taken}
use Rattle.lf_stakes.proofs.facts.a_rule_that_is_never_taken.Goals as goal

pub returns : goal.returns
returns c = λ k w b sets i all none faults allowed few. never_taken k w b sets i all none faults allowed few
