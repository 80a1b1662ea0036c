use Rattle.std.proofs.Common.{◌≡◌, sym, ◌∙◌, arith, below_more, false}
use Rattle.lf_rule_machine.specs.Sets.{has}
use Rattle.lf_rule_machine.proofs.SetsLemmas.{first_from-found, first_from-none}
use Rattle.lf_rule_machine.proofs.sets.lowest.Goals as goal

pub returns-then-has-clause-value : goal.returns-then-has-clause-value
returns-then-has-clause-value c =
    sym (first_from-found 0 8 (has c.args.set) c.args.nodes c.loop-node.node (omega arith) (omega arith) (sym c.has.ensures ∙ c.if-has.true)
    (λ j low few. c.loop-node.invariant j few))

pub loop-node-preserved : goal.loop-node-preserved
loop-node-preserved c = below_more (λ k. has c.args.set k ≡ false) c.loop-node.node c.loop-node.invariant (sym c.has.ensures ∙ c.if-has.false)

pub returns-clause-value : goal.returns-clause-value
returns-clause-value c = sym (first_from-none 0 8 (has c.args.set) c.args.nodes (λ j low few. c.loop-node.invariant j (omega arith)))
