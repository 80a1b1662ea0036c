use Rattle.lf_stakes.proofs.Laws.{is-taken, taken-is}
use Rattle.lf_stakes.proofs.facts.a_count_is_of_runs.Goals as goal

pub returns : goal.returns
returns c = λ k w faults rule. (taken-is k w faults rule, is-taken k w faults rule)
