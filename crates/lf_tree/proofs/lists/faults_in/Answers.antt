use Rattle.std.proofs.Common.{◌≡◌, ◌∷◌, ◌++◌, [], Err, length, ap, length-append, rules, arith}
use Rattle.serde_json.specs.View.{items_view}
use Rattle.lf_tree.specs.Reading.{fault_in, faults_in}
use Rattle.lf_tree.proofs.Items.{read-more, read-wrong, read-last}
use Rattle.lf_tree.proofs.lists.faults_in.Goals as goal

pub returns-in_err-fault-clause-err : goal.returns-in_err-fault-clause-err
returns-in_err-fault-clause-err c =
    let wrong : faults_in (items_view c.args.items.now) ≡ Err c.in_err-fault.field-0.0 =
    read-wrong fault_in c.args.items.now c.items.faults.items c.items.item-index _ c.items.invariant.0 c.item-item.result c.in_err-fault.field-0.0
    c.items-test.true c.item-item.is c.in_err-fault.ensures in
    search rules

pub items-preserved : goal.items-preserved
items-preserved c =
    let pushed : c.push.new.self.items ≡ c.items.faults.items ++ c.in_ok-fault.fault ∷ [] = search rules in (
      read-more fault_in c.args.items.now c.items.faults.items c.items.item-index _ c.items.invariant.0 c.push.new.self.items c.item-item.result
          c.in_ok-fault.fault c.items-test.true c.item-item.is c.in_ok-fault.ensures pushed,
      omega (arith, simp length-append at (ap length pushed), c.items.invariant.1),
    )

pub returns-clause-ok : goal.returns-clause-ok
returns-clause-ok c =
    read-last fault_in c.args.items.now c.items.faults.items c.items.item-index _ c.items.invariant.0 c.items-test.false

pub returns-clause-count : goal.returns-clause-count
returns-clause-count c = omega (arith, c.items.invariant.1)
