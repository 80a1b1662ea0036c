use Rattle.lf_faults.proofs.Laws.{fewer_left}
use Rattle.sim_examples.proofs.order.last_set.Goals as goal

pub sets-smaller : goal.sets-smaller
sets-smaller c = fewer_left c.args.spec.now c.nodes-limits.ensures.limits c.sets.set c.in-Some.next c.sets.invariant c.in-Some.ensures.some
