use Rattle.lf_faults.proofs.Orders.{fault_total, set_total, set_exact}
use Rattle.lf_faults.proofs.facts.orders_are_total.Goals as goal

pub returns-clause-faults : goal.returns-clause-faults
returns-clause-faults c = fault_total

pub returns-clause-sets : goal.returns-clause-sets
returns-clause-sets c = set_total

pub returns-clause-sets_apart : goal.returns-clause-sets_apart
returns-clause-sets_apart c = set_exact
