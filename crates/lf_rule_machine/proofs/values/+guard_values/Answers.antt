use Rattle.std.proofs.Common.{ℕ, ◌+◌, ◌*◌, ap, ◌∙◌, arith}
use Rattle.lf_rules.specs.Terms.{term_of}
use Rattle.lf_rules.specs.Trees.{parts}
use Rattle.lf_rule_machine.specs.Moments.{seen, with_it}
use Rattle.lf_rule_machine.specs.Bodies.{over}
use Rattle.lf_rule_machine.specs.Values.{in_fact, value}
use Rattle.lf_rule_machine.proofs.BodiesLemmas.{eight-same, eight-small}
use Rattle.lf_rule_machine.proofs.ValuesLemmas.{over-value}
use Rattle.lf_rule_machine.proofs.values.+guard_values.Goals as goal

pub guard_over-returns-clause-value : goal.guard_over-returns-clause-value
guard_over-returns-clause-value t c =
    let f : ℕ → ℕ = λ n. value (in_fact c.args.definition.now) c.args.state.now (with_it (seen c.args.at.now) n) (term_of c.args.body.now) in
    c.over.ensures
    ∙ eight-same c.args.at.now.nodes c.guard_value-nodes.result f
    c.guard_member-v0.result c.guard_member-v1.result c.guard_member-v2.result c.guard_member-v3.result
    c.guard_member-v4.result c.guard_member-v5.result c.guard_member-v6.result c.guard_member-v7.result
    c.args.operator
    c.guard_member-v0.ensures.value c.guard_member-v1.ensures.value c.guard_member-v2.ensures.value c.guard_member-v3.ensures.value
    c.guard_member-v4.ensures.value c.guard_member-v5.ensures.value c.guard_member-v6.ensures.value c.guard_member-v7.ensures.value
    ∙ ap (λ s. over c.args.at.now.nodes c.args.operator s f) c.guard_value-nodes.ensures.value

pub guard_over-returns-clause-small : goal.guard_over-returns-clause-small
guard_over-returns-clause-small t c =
    let f : ℕ → ℕ = λ n. value (in_fact c.args.definition.now) c.args.state.now (with_it (seen c.args.at.now) n) (term_of c.args.body.now) in
    let m : ℕ = (parts (term_of c.args.body.now) + 1) * 1099511627520 in
    let is = c.over.ensures in
    let low = eight-small c.args.at.now.nodes c.guard_value-nodes.result f
    c.guard_member-v0.result c.guard_member-v1.result c.guard_member-v2.result c.guard_member-v3.result
    c.guard_member-v4.result c.guard_member-v5.result c.guard_member-v6.result c.guard_member-v7.result
    c.args.operator m (omega arith)
    (omega (arith, c.guard_member-v0.ensures.small))
    (omega (arith, c.guard_member-v1.ensures.small))
    (omega (arith, c.guard_member-v2.ensures.small))
    (omega (arith, c.guard_member-v3.ensures.small))
    (omega (arith, c.guard_member-v4.ensures.small))
    (omega (arith, c.guard_member-v5.ensures.small))
    (omega (arith, c.guard_member-v6.ensures.small))
    (omega (arith, c.guard_member-v7.ensures.small)) in
    omega (arith, is, low)

pub guard_value-returns-in-Over-clause-value : goal.guard_value-returns-in-Over-clause-value
guard_value-returns-in-Over-clause-value t c =
    over-value (in_fact c.args.definition.now) c.args.state.now (seen c.args.at.now) c.in-Over.over (term_of c.args.tree.now)
    (term_of c.deref-in-Over.result.now) (term_of c.deref-in-Over-2.result.now) (term_of c.in-Over.set.value) (term_of c.in-Over.body.value)
    c.guard_over.result (ap term_of c.in-Over.is) (ap term_of c.deref-in-Over.ensures) (ap term_of c.deref-in-Over-2.ensures)
    c.guard_over.ensures.value
