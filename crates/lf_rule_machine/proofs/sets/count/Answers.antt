use Rattle.std.proofs.Common.{refl, sym, ◌∙◌, arith}
use Rattle.lf_rule_machine.specs.Sets.{has, count_below}
use Rattle.lf_rule_machine.proofs.SetsLemmas.{count_below-hit, count_below-miss}
use Rattle.lf_rule_machine.proofs.sets.count.Goals as goal
use Rattle.lf_rule_machine.proofs.sets.count.Goals.{then-has, else-has}

pub loop-node-init : goal.loop-node-init
unfolding count_below
loop-node-init c = record { counted = refl; few = omega arith }

pub loop-node-preserved : goal.loop-node-preserved
loop-node-preserved c = elim c.if-has.branch [
  | then-has w ↦
      let more = count_below-hit c.loop-node.node (has c.args.set) (sym c.has.ensures ∙ w.if-has.true) in
      record { counted = omega (arith, more); few = omega arith }
  | else-has w ↦
      let same = count_below-miss c.loop-node.node (has c.args.set) (sym c.has.ensures ∙ w.if-has.false) in
      record { counted = omega (arith, same); few = omega arith }
]
