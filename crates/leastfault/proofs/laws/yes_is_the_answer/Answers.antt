use Rattle.leastfault.proofs.Yes.{yes_is_answer, zero_is_yes}
use Rattle.leastfault.proofs.laws.yes_is_the_answer.Goals as goal

pub returns-clause-yes : goal.returns-clause-yes
returns-clause-yes c known text certificate status is = yes_is_answer known text certificate status is

pub returns-clause-zero : goal.returns-clause-zero
returns-clause-zero c known text certificate reply is = zero_is_yes known text certificate reply is
