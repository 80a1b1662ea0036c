use Rattle.lf_faults.proofs.Laws.{sets_left}
use Rattle.lf_stakes.proofs.SinglesLemmas.{IsListedTo}
use Rattle.lf_stakes.proofs.singles.single_sets.Given as goal

-- the sets are those up to this one
abbrev pub invariant-sets : goal.invariant-sets
invariant-sets l = IsListedTo l.spec l.set l.sets.items

abbrev pub decreases-sets : goal.decreases-sets
decreases-sets l = sets_left l.set
