use Rattle.std.proofs.Common.{◌≡◌, slice_index, refl, sym, ap, ◌∙◌, arith, cond}
use Rattle.std.specs.Prelude.{Some}
use Rattle.lf_rule_machine.specs.Bodies.{is_member, least_below, lesser}
use Rattle.lf_rule_machine.proofs.BodiesLemmas.{least-more}
use Rattle.lf_rule_machine.proofs.bodies.least.Goals as goal

pub loop-node-init : goal.loop-node-init
unfolding least_below
loop-node-init c = refl

pub loop-node-preserved : goal.loop-node-preserved
loop-node-preserved c =
    let p = is_member c.args.nodes c.args.set in
    let f = slice_index c.args.values.now in
    let k = c.loop-node.node in
    c.least_with-found.ensures ∙ ap (λ x. cond (p k) (Some (lesser (f k) x)) x) c.loop-node.invariant
    ∙ sym (least-more k p f)

pub returns : goal.returns
returns c =
    let last : c.loop-node.node ≡ 8 = omega arith in
    c.loop-node.invariant ∙ ap (λ n. least_below n (is_member c.args.nodes c.args.set) (slice_index c.args.values.now)) last
