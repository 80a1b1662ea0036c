use Rattle.lf_stakes.proofs.Laws.{taken-counted}
use Rattle.lf_stakes.proofs.facts.each_rule_that_is_taken_is_counted.Goals as goal

pub returns : goal.returns
returns c = λ k w faults rule is. taken-counted k w faults rule is
