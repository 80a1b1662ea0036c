-- What an expression begins with, where it names no expression or no guard; and what comes of a body.
use Rattle.std.proofs.Common.{◌≡◌, ℕ, refl, sym, ap, ◌∙◌}
use Rattle.lf_rules.specs.declared.expr.Leaf.{Leaf}
use Rattle.lf_rules.specs.declared.expr.Leaf.TheVariants as leaves
use Rattle.lf_rules.specs.declared.expr.Over.{Over}
use Rattle.lf_rules.specs.Terms.{Term}
use Rattle.lf_rules.specs.Terms as terms
use Rattle.lf_rules.specs.declared.definition.Definition.{Definition}
use Rattle.lf_rule_machine.specs.Moments.{Moment, with_it}
use Rattle.lf_rule_machine.specs.Bodies.{over}
use Rattle.lf_rule_machine.specs.declared.state.State.{State}
use Rattle.lf_rule_machine.specs.Values.{plain, in_fact, in_rule, value}

module _ (d : Definition) (at : Moment) (s : State) where
  pub in_fact-other : (leaf : Leaf) → ((i : ℕ) → leaf ≡ leaves.Let i → ⊥) → in_fact d at s leaf ≡ plain at s leaf
  in_fact-other (leaves.Number n) other = refl
  in_fact-other (leaves.Truth b) other = refl
  in_fact-other (leaves.Word of word) other = refl
  in_fact-other leaves.Empty other = refl
  in_fact-other leaves.Nodes other = refl
  in_fact-other leaves.All other = refl
  in_fact-other (leaves.Given i) other = refl
  in_fact-other leaves.Me other = refl
  in_fact-other leaves.Step other = refl
  in_fact-other leaves.Sender other = refl
  in_fact-other (leaves.Field i) other = refl
  in_fact-other (leaves.Variable i) other = refl
  in_fact-other leaves.Clamped other = refl
  in_fact-other leaves.Replaced other = refl
  in_fact-other (leaves.Let i) other = absurd (other i refl)
  in_fact-other (leaves.Fact i) other = refl
  in_fact-other leaves.It other = refl

  pub in_rule-other : (leaf : Leaf) → ((i : ℕ) → leaf ≡ leaves.Fact i → ⊥) → in_rule d at s leaf ≡ in_fact d at s leaf
  in_rule-other (leaves.Number n) other = refl
  in_rule-other (leaves.Truth b) other = refl
  in_rule-other (leaves.Word of word) other = refl
  in_rule-other leaves.Empty other = refl
  in_rule-other leaves.Nodes other = refl
  in_rule-other leaves.All other = refl
  in_rule-other (leaves.Given i) other = refl
  in_rule-other leaves.Me other = refl
  in_rule-other leaves.Step other = refl
  in_rule-other leaves.Sender other = refl
  in_rule-other (leaves.Field i) other = refl
  in_rule-other (leaves.Variable i) other = refl
  in_rule-other leaves.Clamped other = refl
  in_rule-other leaves.Replaced other = refl
  in_rule-other (leaves.Let i) other = refl
  in_rule-other (leaves.Fact i) other = absurd (other i refl)
  in_rule-other leaves.It other = refl

-- what comes of a set and a body is the value of the expression that has them
pub over-value : (leaf : Moment → State → Leaf → ℕ) (s : State) (at : Moment) (op : Over) (e set body a b : Term) (v : ℕ) → e ≡ terms.Over op a b → set ≡ a
    → body ≡ b → v ≡ over at.nodes op (value leaf s at set) (λ n. value leaf s (with_it at n) body) → v ≡ value leaf s at e
over-value leaf s at op e set body a b v is from_set from_body made =
    made
    ∙ ap (λ x. over at.nodes op (value leaf s at x) (λ n. value leaf s (with_it at n) body)) from_set
    ∙ ap (λ x. over at.nodes op (value leaf s at a) (λ n. value leaf s (with_it at n) x)) from_body
    ∙ ap (value leaf s at) (sym is)
