use Rattle.lf_faults.specs.Allowed.{IsAllowed}
use Rattle.lf_faults.proofs.Laws.{sets_left}
use Rattle.sim_examples.proofs.order.last_set.Given as goal

abbrev pub invariant-sets : goal.invariant-sets
invariant-sets l = IsAllowed l.spec l.set

abbrev pub decreases-sets : goal.decreases-sets
decreases-sets l = sets_left l.set
