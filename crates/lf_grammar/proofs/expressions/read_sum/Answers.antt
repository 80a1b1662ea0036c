use Rattle.std.proofs.Common.{refl}
use Rattle.lf_grammar.specs.Expressions.{first_sum}
use Rattle.lf_grammar.proofs.Sorted.{read-sorted, read-few}
use Rattle.lf_grammar.proofs.Steps.{first-read}
use Rattle.lf_grammar.proofs.expressions.read_sum.Goals as goal

pub returns-clause-read : goal.returns-clause-read
unfolding first_sum
returns-clause-read c = first-read _ _ _ _ c.read_all.ensures.read

pub returns-clause-typed : goal.returns-clause-typed
returns-clause-typed c = read-sorted _ _ _ tt _ c.read_all.ensures.read

pub returns-clause-few : goal.returns-clause-few
returns-clause-few c = read-few _ _ _ tt refl _ c.read_all.ensures.read
