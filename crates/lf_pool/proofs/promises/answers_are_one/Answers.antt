use Rattle.lf_pool.proofs.OneLemmas.{found-one, full-one}
use Rattle.lf_pool.proofs.promises.answers_are_one.Goals as goal

pub returns-clause-answer : goal.returns-clause-answer
returns-clause-answer c = found-one

pub returns-clause-full : goal.returns-clause-full
returns-clause-full c = full-one
