use Rattle.leastfault.proofs.answering.least_sets.Goals as goal

pub returns : goal.returns
returns c = let is = rw c.in-Some.is at c.in_ok-found.ensures in is.1
