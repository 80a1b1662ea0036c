-- Expressions as trees.
use Rattle.std.specs.Prelude.{ℕ, ◌+◌, Bool, true, false, ◌||◌}
use Rattle.lf_rules.specs.declared.expr.Leaf.{Leaf as Start}
use Rattle.lf_rules.specs.declared.expr.Leaf.TheVariants as leaves
use Rattle.lf_rules.specs.Terms.{Term, Leaf, Unary, Binary, At, Over}

-- how many parts an expression has
abbrev pub parts : Term → ℕ
parts (Leaf x) = 1
parts (Unary op a) = parts a + 1
parts (Binary op a b) = parts a + parts b + 1
parts (At row place) = parts place + 1
parts (Over op set body) = parts set + parts body + 1

-- it stands in an expression, outside of bodies of its own
abbrev pub is_it : Start → Bool
is_it leaves.It = true
is_it other = false

abbrev pub has_it : Term → Bool
has_it (Leaf x) = is_it x
has_it (Unary op a) = has_it a
has_it (Binary op a b) = has_it a || has_it b
has_it (At row place) = has_it place
has_it (Over op set body) = has_it set
