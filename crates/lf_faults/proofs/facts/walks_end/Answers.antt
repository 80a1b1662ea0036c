use Rattle.lf_faults.proofs.Ending.{walk, walk_one, sets_left, fewer_left}
use Rattle.lf_faults.proofs.facts.walks_end.Goals as goal

pub returns-clause-exists : goal.returns-clause-exists
returns-clause-exists c = walk

pub returns-clause-one : goal.returns-clause-one
returns-clause-one c = walk_one

pub returns-clause-ends : goal.returns-clause-ends
returns-clause-ends c = (sets_left, λ b here next limits. fewer_left b limits here next)
