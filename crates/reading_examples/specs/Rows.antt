-- Where a table and a constant have names.
use Rattle.std.specs.Prelude.{ℕ, List, [], ◌∷◌, codes}
use Rattle.lf_rules.specs.Terms.{Term}
use Rattle.lf_rules.specs.Terms as terms
use Rattle.lf_rules.specs.declared.definition.Definition.{Definition}
use Rattle.lf_rules.specs.declared.definition.Given.TheVariants as givens
use Rattle.lf_rules.specs.declared.definition.Value.TheVariants as values
use Rattle.lf_rules.specs.declared.expr.Binary.TheVariants as twos
use Rattle.lf_rules.specs.declared.expr.Leaf.{Leaf}
use Rattle.lf_rules.specs.declared.expr.Leaf.TheVariants as leaves
use Rattle.lf_rules.specs.declared.expr.Row.{Row}
use Rattle.lf_rules.specs.declared.expr.Row.TheVariants as rows
use Rattle.lf_rules.specs.declared.kind.Kind.TheVariants as kinds
use Rattle.lf_rules.specs.declared.sort.Scope.TheVariants as scopes
use Rattle.lf_rules.specs.declared.sort.Sort.TheVariants as sorts
use Rattle.lf_rules.specs.declared.sort.Within.TheVariants as withins
use Rattle.lf_rules.specs.declared.table.Cells.TheVariants as cells
use Rattle.lf_grammar.specs.Places.{Context}

-- a number for each node, and how long to wait
abbrev pub peers : Definition
peers = record {
  variables = record { name = codes "next"; kind = kinds.UpTo 9; cells = cells.EachNode; words = [] } ∷ [];
  notes = [];
  given = record { name = codes "timeout"; sort = sorts.Number; value = givens.One (values.Number 2) } ∷ [];
  lets = [];
  facts = [];
  chains = [];
  trace = [];
}

abbrev pub in_a_rule : Context
in_a_rule = record {
  definition = peers;
  fields = [];
  names = record { name = codes "next"; leaf = leaves.Variable 0 } ∷ record { name = codes "timeout"; leaf = leaves.Given 0 } ∷ [];
  scope = scopes.Plain;
  within = withins.Nothing;
}

abbrev next : Row
next = rows.Table (record { of = 0; others = 1; cells = cells.EachNode })

-- `(next[timeout[1]] + 1)`: one more than what the table has at the node with the number that node 1 waits
abbrev pub one_more : Term
one_more = terms.Binary twos.Add (terms.At next (terms.At (rows.Given 0) (terms.Leaf (leaves.Number 1)))) (terms.Leaf (leaves.Number 1))

abbrev pub name_of : Leaf → List ℕ
name_of (leaves.Variable i) = codes "next"
name_of other = codes "timeout"
