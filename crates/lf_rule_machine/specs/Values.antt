-- The value of an expression, at a moment of a node's step and on the state as it is then: a number, where a truth value is 0 or 1, a word its place, and a
-- set of nodes the number whose bit n is set where it has n.
use Rattle.std.specs.Prelude.{ℕ, List, Option, None, Some, slice_get, replicate}
use Rattle.lf_rules.specs.declared.expr.Leaf.{Leaf}
use Rattle.lf_rules.specs.declared.expr.Leaf.TheVariants as leaves
use Rattle.lf_rules.specs.Terms.{Term}
use Rattle.lf_rules.specs.Terms as terms
use Rattle.lf_rules.specs.declared.definition.Named.{Named}
use Rattle.lf_rules.specs.declared.definition.Guard.{Guard}
use Rattle.lf_rules.specs.declared.definition.Definition.{Definition}
use Rattle.lf_rule_machine.specs.Moments.{Moment, with_it, given_here}
use Rattle.lf_rule_machine.specs.Places.{stands}
use Rattle.lf_rule_machine.specs.Places as places
use Rattle.lf_rule_machine.specs.Bodies.{over}
use Rattle.lf_rule_machine.specs.declared.state.State.{State}
use Rattle.lf_rule_machine.specs.Sets.{truth, below}
use Rattle.lf_rule_machine.specs.States.{zeros}
use Rattle.lf_rule_machine.specs.Operators.{unary, binary}

-- a tree's value, by the values of what it begins with. A body is worked out for each node with it that node
module _ (leaf : Moment → State → Leaf → ℕ) (s : State) where
  abbrev pub value : Moment → Term → ℕ
  value at (terms.Leaf x) = leaf at s x
  value at (terms.Unary op a) = unary at.nodes op (value at a)
  value at (terms.Binary op a b) = binary at.nodes op (value at a) (value at b)
  value at (terms.At row place) = stands at s row (value at place)
  value at (terms.Over op set body) = over at.nodes op (value at set) (λ n. value (with_it at n) body)

-- a number of a list, and 0 where there is none
abbrev pub zero_or : Option ℕ → ℕ
zero_or = places.zero_or

-- the value of all that names no expression
abbrev pub plain : Moment → State → Leaf → ℕ
plain at s (leaves.Number n) = n
plain at s (leaves.Truth b) = truth b
plain at s (leaves.Word of w) = w
plain at s leaves.Empty = 0
plain at s leaves.Nodes = at.nodes
plain at s leaves.All = below at.nodes
plain at s (leaves.Given i) = zero_or (slice_get (given_here at) i)
plain at s leaves.Me = at.me
plain at s leaves.Step = at.step
plain at s leaves.Sender = at.sender
plain at s (leaves.Field i) = zero_or (slice_get at.fields i)
plain at s (leaves.Variable i) = zero_or (slice_get s.values i)
plain at s leaves.Clamped = truth s.clamped
plain at s leaves.Replaced = truth s.replaced
plain at s (leaves.Let i) = 0
plain at s (leaves.Fact i) = 0
plain at s leaves.It = at.it

-- a named expression is worked out where it is named, at this node and on the state of this moment, with 0 for it. It names no other
abbrev pub value_of_let : Moment → State → Option Named → ℕ
value_of_let at s None = 0
value_of_let at s (Some x) = value plain s (with_it at 0) x.value

-- what a guard may name: all that, and named expressions
abbrev pub in_fact : Definition → Moment → State → Leaf → ℕ
in_fact d at s (leaves.Let i) = value_of_let at s (slice_get d.lets i)
in_fact d at s leaf = plain at s leaf

-- a named guard too
abbrev pub value_of_fact : Definition → Moment → State → Option Guard → ℕ
value_of_fact d at s None = 0
value_of_fact d at s (Some x) = value (in_fact d) s (with_it at 0) x.value

-- what a rule may name: all that, and named guards
abbrev pub in_rule : Definition → Moment → State → Leaf → ℕ
in_rule d at s (leaves.Fact i) = value_of_fact d at s (slice_get d.facts i)
in_rule d at s leaf = in_fact d at s leaf

-- the value of an expression in a rule
abbrev pub value_of : Definition → Moment → State → Term → ℕ
value_of d at s e = value (in_rule d) s at e

-- a moment of no step: of it are known how many nodes there are, and the constants, at whichever node
abbrev pub outside : ℕ → List ℕ → Moment
outside nodes given = record { nodes = nodes; me = 0; given = replicate 8 given; step = 0; sender = 0; fields = replicate 7 0; it = 0 }

-- the value of an expression that names constants, nodes and all alone
abbrev pub fixed_value : ℕ → List ℕ → Term → ℕ
fixed_value nodes given e = value plain zeros (outside nodes given) e
