use Rattle.std.proofs.Common.{◌≡◌, slice_index, refl, sym, ap, ◌∙◌, arith, cond, max}
use Rattle.lf_rule_machine.specs.Bodies.{is_member, greatest_below}
use Rattle.lf_rule_machine.proofs.BodiesLemmas.{greatest-more}
use Rattle.lf_rule_machine.proofs.bodies.greatest.Goals as goal

pub loop-node-init : goal.loop-node-init
unfolding greatest_below
loop-node-init c = refl

pub loop-node-preserved : goal.loop-node-preserved
loop-node-preserved c =
    let p = is_member c.args.nodes c.args.set in
    let f = slice_index c.args.values.now in
    let k = c.loop-node.node in
    c.greatest_with-found.ensures ∙ ap (λ x. cond (p k) (max (f k) x) x) c.loop-node.invariant
    ∙ sym (greatest-more k p f)

pub returns : goal.returns
returns c =
    let last : c.loop-node.node ≡ 8 = omega arith in
    c.loop-node.invariant ∙ ap (λ n. greatest_below n (is_member c.args.nodes c.args.set) (slice_index c.args.values.now)) last
