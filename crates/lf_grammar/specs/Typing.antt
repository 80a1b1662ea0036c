-- Expressions with what they are, and what comes of operators on them.
use Rattle.std.specs.Prelude.{Bool, true, false, Option, Some, None, codes}
use Rattle.std.specs.Str.{bytes_eq}
use Rattle.lf_rules.specs.Terms.{Term}
use Rattle.lf_rules.specs.Terms as terms
use Rattle.lf_rules.specs.Sorts.{unary_sort, binary_sort, row_sort, at_sort, over_sort}
use Rattle.lf_rules.specs.declared.expr.Leaf.TheVariants as leaves
use Rattle.lf_rules.specs.declared.expr.Unary.{Unary}
use Rattle.lf_rules.specs.declared.expr.Unary.TheVariants as ones
use Rattle.lf_rules.specs.declared.expr.Binary.{Binary}
use Rattle.lf_rules.specs.declared.expr.Binary.TheVariants as twos
use Rattle.lf_rules.specs.declared.expr.Row.{Row}
use Rattle.lf_rules.specs.declared.expr.Over.{Over}
use Rattle.lf_rules.specs.declared.definition.Definition.{Definition}
use Rattle.lf_rules.specs.declared.sort.Scope.{Scope}
use Rattle.lf_rules.specs.declared.sort.Sort.{Sort}
use Rattle.lf_rules.specs.declared.sort.Sort.TheVariants as sorts
use Rattle.lf_grammar.specs.declared.sign.Sign.TheVariants as signs
use Rattle.lf_grammar.specs.declared.token.Token.{Token}
use Rattle.lf_grammar.specs.declared.token.Token.TheVariants as tokens
use Rattle.lf_grammar.specs.declared.level.Joint.{Joint}
use Rattle.lf_grammar.specs.declared.level.Joint.TheVariants as joints
use Rattle.lf_grammar.specs.declared.calls.Call.{Call}
use Rattle.lf_grammar.specs.declared.calls.Call.TheVariants as calls

-- an expression, and what it is
pub record Said : Type 0 where
  pub term : Term
  pub sort : Sort

-- the next step, where there is something to go on with
infixl 10 ◌>>=◌
abbrev pub ◌>>=◌ : {A B : Type 0} → Option A → (A → Option B) → Option B
Some x >>= next = next x
None >>= next = None

-- what comes of operators, where the values are of the sorts that they take
abbrev pub typed : Term → Option Sort → Option Said
typed term None = None
typed term (Some sort) = Some (record { term = term; sort = sort })

abbrev pub by_one : Unary → Said → Option Said
by_one op a = typed (terms.Unary op a.term) (unary_sort op (Some a.sort))

abbrev pub by_two : Binary → Said → Said → Option Said
by_two op a b = typed (terms.Binary op a.term b.term) (binary_sort op (Some a.sort) (Some b.sort))

-- what stands at a place
abbrev pub at_place : Definition → Scope → Row → Said → Option Said
at_place d scope row a = typed (terms.At row a.term) (at_sort (row_sort d scope row) (Some a.sort))

-- what comes of a set and a body
abbrev pub over_set : Over → Said → Said → Option Said
over_set op a b = typed (terms.Over op a.term b.term) (over_sort op (Some a.sort) (Some b.sort))

-- a number stands for the set of that node alone
abbrev pub set_by : Sort → Said → Option Said
set_by sorts.Number a = by_one ones.Only a
set_by other a = Some a

abbrev pub as_set : Said → Option Said
as_set a = set_by a.sort a

abbrev pub plus_by : Sort → Said → Said → Option Said
plus_by sorts.Nodes a b = as_set b >>= λ c. by_two twos.Union a c
plus_by other a b = by_two twos.Add a b

abbrev pub minus_by : Sort → Said → Said → Option Said
minus_by sorts.Nodes a b = as_set b >>= λ c. by_two twos.Without a c
minus_by other a b = by_two twos.Subtract a b

-- two values, compared by a token
abbrev pub compared : Token → Said → Said → Option Said
compared (tokens.Sign signs.Equal) a b = by_two twos.Equal a b
compared (tokens.Sign signs.NotEqual) a b = by_two twos.Equal a b >>= λ c. by_one ones.Not c
compared (tokens.Sign signs.Less) a b = by_two twos.Less a b
compared (tokens.Sign signs.AtMost) a b = by_two twos.AtMost a b
compared (tokens.Sign signs.More) a b = by_two twos.Less b a
compared (tokens.Sign signs.AtLeast) a b = by_two twos.AtMost b a
compared other a b = by_two twos.In a b

abbrev pub compares : Token → Bool
compares (tokens.Sign signs.Equal) = true
compares (tokens.Sign signs.NotEqual) = true
compares (tokens.Sign signs.Less) = true
compares (tokens.Sign signs.AtMost) = true
compares (tokens.Sign signs.More) = true
compares (tokens.Sign signs.AtLeast) = true
compares (tokens.Sign other) = false
compares (tokens.Word word) = bytes_eq word (codes "in")
compares (tokens.Number n) = false

-- what stands between two values joins them
abbrev pub joined : Joint → Said → Said → Option Said
joined joints.Comma a b = by_two twos.Union a b
joined joints.Or a b = by_two twos.Or a b
joined joints.And a b = by_two twos.And a b
joined joints.Plus a b = plus_by a.sort a b
joined joints.Minus a b = minus_by a.sort a b
joined joints.Remainder a b = by_two twos.Remainder a b

abbrev pub all_nodes : Said
all_nodes = record { term = terms.Leaf leaves.All; sort = sorts.Nodes }

-- how many nodes there are, which is one past the last
abbrev pub how_many : Said
how_many = record { term = terms.Leaf leaves.Nodes; sort = sorts.Number }

abbrev pub no_node : Said
no_node = record { term = terms.Leaf leaves.Empty; sort = sorts.Nodes }

-- what is said by a name of one value, or of two
abbrev pub by_call : Call → Said → Option Said → Option Said
by_call (calls.Of op) a None = by_one op a
by_call (calls.Of op) a (Some b) = None
by_call (calls.OfTwo op) a None = None
by_call (calls.OfTwo op) a (Some b) = by_two op a b
by_call calls.Majority a None = by_two twos.Majority a all_nodes
by_call calls.Majority a (Some b) = by_two twos.Majority a b

-- the set of one node alone; a set is no node
abbrev pub only_by : Sort → Said → Option Said
only_by sorts.Number a = by_one ones.Only a
only_by other a = None

-- the nodes from one to another, or from one on
abbrev pub between : Said → Said → Option Said
between a b = by_two twos.Between a b
