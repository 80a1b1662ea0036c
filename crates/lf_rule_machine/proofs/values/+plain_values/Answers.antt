use Rattle.std.proofs.Common.{ℕ, ◌+◌, ◌*◌, ap, ◌∙◌, arith}
use Rattle.lf_rules.specs.Terms.{term_of}
use Rattle.lf_rules.specs.Trees.{parts}
use Rattle.lf_rule_machine.specs.Moments.{seen, with_it}
use Rattle.lf_rule_machine.specs.Bodies.{over}
use Rattle.lf_rule_machine.specs.Values.{plain, value}
use Rattle.lf_rule_machine.proofs.BodiesLemmas.{eight-same, eight-small}
use Rattle.lf_rule_machine.proofs.ValuesLemmas.{over-value}
use Rattle.lf_rule_machine.proofs.values.+plain_values.Goals as goal

pub plain_over-returns-clause-value : goal.plain_over-returns-clause-value
plain_over-returns-clause-value t c =
    let f : ℕ → ℕ = λ n. value plain c.args.state.now (with_it (seen c.args.at.now) n) (term_of c.args.body.now) in
    c.over.ensures
    ∙ eight-same c.args.at.now.nodes c.plain_value-nodes.result f
    c.plain_member-v0.result c.plain_member-v1.result c.plain_member-v2.result c.plain_member-v3.result
    c.plain_member-v4.result c.plain_member-v5.result c.plain_member-v6.result c.plain_member-v7.result
    c.args.operator
    c.plain_member-v0.ensures.value c.plain_member-v1.ensures.value c.plain_member-v2.ensures.value c.plain_member-v3.ensures.value
    c.plain_member-v4.ensures.value c.plain_member-v5.ensures.value c.plain_member-v6.ensures.value c.plain_member-v7.ensures.value
    ∙ ap (λ s. over c.args.at.now.nodes c.args.operator s f) c.plain_value-nodes.ensures.value

pub plain_over-returns-clause-small : goal.plain_over-returns-clause-small
plain_over-returns-clause-small t c =
    let f : ℕ → ℕ = λ n. value plain c.args.state.now (with_it (seen c.args.at.now) n) (term_of c.args.body.now) in
    let m : ℕ = (parts (term_of c.args.body.now) + 1) * 4294967295 in
    let is = c.over.ensures in
    let low = eight-small c.args.at.now.nodes c.plain_value-nodes.result f
    c.plain_member-v0.result c.plain_member-v1.result c.plain_member-v2.result c.plain_member-v3.result
    c.plain_member-v4.result c.plain_member-v5.result c.plain_member-v6.result c.plain_member-v7.result
    c.args.operator m (omega arith)
    (omega (arith, c.plain_member-v0.ensures.small))
    (omega (arith, c.plain_member-v1.ensures.small))
    (omega (arith, c.plain_member-v2.ensures.small))
    (omega (arith, c.plain_member-v3.ensures.small))
    (omega (arith, c.plain_member-v4.ensures.small))
    (omega (arith, c.plain_member-v5.ensures.small))
    (omega (arith, c.plain_member-v6.ensures.small))
    (omega (arith, c.plain_member-v7.ensures.small)) in
    omega (arith, is, low)

pub plain_value-returns-in-Over-clause-value : goal.plain_value-returns-in-Over-clause-value
plain_value-returns-in-Over-clause-value t c =
    over-value plain c.args.state.now (seen c.args.at.now) c.in-Over.over (term_of c.args.tree.now)
    (term_of c.deref-in-Over.result.now) (term_of c.deref-in-Over-2.result.now) (term_of c.in-Over.set.value) (term_of c.in-Over.body.value)
    c.plain_over.result (ap term_of c.in-Over.is) (ap term_of c.deref-in-Over.ensures) (ap term_of c.deref-in-Over-2.ensures)
    c.plain_over.ensures.value
