use Rattle.lf_mutations.proofs.Laws.{listed-made, made-listed, listed-once}
use Rattle.lf_mutations.proofs.change_laws.mutations_are_all.Goals as goal

pub returns-clause-made : goal.returns-clause-made
returns-clause-made c = λ d deep m listed. listed-made d deep m listed

pub returns-clause-all : goal.returns-clause-all
returns-clause-all c = λ d m made. made-listed d m made

pub returns-clause-once : goal.returns-clause-once
returns-clause-once c = λ d deep i j m one two. listed-once d deep i j m one two
