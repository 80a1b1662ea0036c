use Rattle.std.proofs.Common.{◌≡◌, ◌≤◌, refl, sym, subst, ◌∙◌, inl, inr, arith}
use Rattle.std.specs.Prelude.{◌⊎◌}
use Rattle.lf_rule_machine.specs.Sets.{has, last_below}
use Rattle.lf_rule_machine.proofs.SetsLemmas.{last_below-hit, last_below-miss}
use Rattle.lf_rule_machine.proofs.sets.highest.Goals as goal
use Rattle.lf_rule_machine.proofs.sets.highest.Goals.{then-has, else-has}

pub loop-node-init : goal.loop-node-init
unfolding last_below
loop-node-init c = record { last = refl; low = inr refl }

pub loop-node-preserved : goal.loop-node-preserved
loop-node-preserved c = elim c.if-has.branch [
  | then-has w ↦
      let here = last_below-hit c.loop-node.node (has c.args.set) c.args.nodes (sym c.has.ensures ∙ w.if-has.true) in
      record { last = w.found-is ∙ sym here; low = inl (omega arith) }
  | else-has w ↦
      let same = last_below-miss c.loop-node.node (has c.args.set) c.args.nodes (sym c.has.ensures ∙ w.if-has.false) in
      record {
        last = w.found-is ∙ c.loop-node.invariant.last ∙ sym same;
        low = subst (λ x. (x ≤ 7) ⊎ (x ≡ c.args.nodes)) (sym w.found-is) c.loop-node.invariant.low;
      }
]
