use Rattle.std.proofs.Common.{arith}
use Rattle.lf_rule_machine.specs.Sets.{has}
use Rattle.lf_rule_machine.proofs.SetsLemmas.{first_from-found, first_from-none, last_below-found, last_below-none}
use Rattle.lf_rule_machine.proofs.set_laws.sets_have_ends.Goals as goal

pub returns-clause-lowest : goal.returns-clause-lowest
returns-clause-lowest c = λ nodes s n h is before. first_from-found 0 8 (has s) nodes n (omega arith) (omega arith) is (λ j low few. before j few)

pub returns-clause-highest : goal.returns-clause-highest
returns-clause-highest c = λ nodes s n h is after. last_below-found 8 (has s) nodes n h is after

pub returns-clause-no_lowest : goal.returns-clause-no_lowest
returns-clause-no_lowest c = λ nodes s none. first_from-none 0 8 (has s) nodes (λ j low few. none j)

pub returns-clause-no_highest : goal.returns-clause-no_highest
returns-clause-no_highest c = λ nodes s none. last_below-none 8 (has s) nodes none
