use Rattle.std.proofs.Common.{ℕ, ◌+◌, ◌*◌, ap, ◌∙◌, arith}
use Rattle.lf_rules.specs.Terms.{term_of}
use Rattle.lf_rules.specs.Trees.{parts}
use Rattle.lf_rule_machine.specs.Moments.{seen, with_it}
use Rattle.lf_rule_machine.specs.Bodies.{over}
use Rattle.lf_rule_machine.specs.Values.{in_rule, value}
use Rattle.lf_rule_machine.proofs.BodiesLemmas.{eight-same, eight-small}
use Rattle.lf_rule_machine.proofs.ValuesLemmas.{over-value}
use Rattle.lf_rule_machine.proofs.values.+rule_values.Goals as goal

pub rule_over-returns-clause-value : goal.rule_over-returns-clause-value
rule_over-returns-clause-value t c =
    let f : ℕ → ℕ = λ n. value (in_rule c.args.definition.now) c.args.state.now (with_it (seen c.args.at.now) n) (term_of c.args.body.now) in
    c.over.ensures
    ∙ eight-same c.args.at.now.nodes c.rule_value-nodes.result f
    c.rule_member-v0.result c.rule_member-v1.result c.rule_member-v2.result c.rule_member-v3.result
    c.rule_member-v4.result c.rule_member-v5.result c.rule_member-v6.result c.rule_member-v7.result
    c.args.operator
    c.rule_member-v0.ensures.value c.rule_member-v1.ensures.value c.rule_member-v2.ensures.value c.rule_member-v3.ensures.value
    c.rule_member-v4.ensures.value c.rule_member-v5.ensures.value c.rule_member-v6.ensures.value c.rule_member-v7.ensures.value
    ∙ ap (λ s. over c.args.at.now.nodes c.args.operator s f) c.rule_value-nodes.ensures.value

pub rule_over-returns-clause-small : goal.rule_over-returns-clause-small
rule_over-returns-clause-small t c =
    let f : ℕ → ℕ = λ n. value (in_rule c.args.definition.now) c.args.state.now (with_it (seen c.args.at.now) n) (term_of c.args.body.now) in
    let m : ℕ = (parts (term_of c.args.body.now) + 1) * 281474976645120 in
    let is = c.over.ensures in
    let low = eight-small c.args.at.now.nodes c.rule_value-nodes.result f
    c.rule_member-v0.result c.rule_member-v1.result c.rule_member-v2.result c.rule_member-v3.result
    c.rule_member-v4.result c.rule_member-v5.result c.rule_member-v6.result c.rule_member-v7.result
    c.args.operator m (omega arith)
    (omega (arith, c.rule_member-v0.ensures.small))
    (omega (arith, c.rule_member-v1.ensures.small))
    (omega (arith, c.rule_member-v2.ensures.small))
    (omega (arith, c.rule_member-v3.ensures.small))
    (omega (arith, c.rule_member-v4.ensures.small))
    (omega (arith, c.rule_member-v5.ensures.small))
    (omega (arith, c.rule_member-v6.ensures.small))
    (omega (arith, c.rule_member-v7.ensures.small)) in
    omega (arith, is, low)

pub rule_value-returns-in-Over-clause-value : goal.rule_value-returns-in-Over-clause-value
rule_value-returns-in-Over-clause-value t c =
    over-value (in_rule c.args.definition.now) c.args.state.now (seen c.args.at.now) c.in-Over.over (term_of c.args.tree.now)
    (term_of c.deref-in-Over.result.now) (term_of c.deref-in-Over-2.result.now) (term_of c.in-Over.set.value) (term_of c.in-Over.body.value)
    c.rule_over.result (ap term_of c.in-Over.is) (ap term_of c.deref-in-Over.ensures) (ap term_of c.deref-in-Over-2.ensures)
    c.rule_over.ensures.value
