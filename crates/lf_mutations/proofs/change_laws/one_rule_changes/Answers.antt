use Rattle.lf_mutations.proofs.Laws.{there-from, there-made, mutated-mutant}
use Rattle.lf_mutations.proofs.change_laws.one_rule_changes.Goals as goal

pub returns-clause-there : goal.returns-clause-there
returns-clause-there c = λ d m. (there-from d m, there-made d m)

pub returns-clause-change : goal.returns-clause-change
returns-clause-change c = λ d e m made. mutated-mutant d e m made
