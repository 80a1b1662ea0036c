use Rattle.std.proofs.Common.{rules, if◌then◌else◌, Some, None, sym, ap}
use Rattle.lf_tree.proofs.Ascending.{stops, goes_on}
use Rattle.lf_tree.proofs.lists.ascending.Goals as goal

pub returns-then-not-all_before : goal.returns-then-not-all_before
returns-then-not-all_before c =
    sym (ap (λ b. if b then Some c.args.faults.now else None)
    (stops c.args.faults.now c.faults.set c.faults.fault-index c.fault-item.result (search rules) c.fault-item.is c.faults.invariant.0 (search rules)))

pub faults-preserved : goal.faults-preserved
faults-preserved c =
    goes_on c.args.faults.now c.faults.set c.in_ok-set.set c.faults.fault-index c.fault-item.result (search rules) c.fault-item.is c.faults.invariant.0
    c.faults.invariant.1 (search rules) c.in_ok-set.ensures.value
