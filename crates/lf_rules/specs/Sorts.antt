-- What expressions are: the types of the language.
use Rattle.std.specs.Prelude.{ℕ, Bool, true, false, ◌&&◌, ◌==◌, nat_lt, length, Option, None, Some, slice_get}
use Rattle.lf_rules.specs.declared.kind.Kind.{Kind}
use Rattle.lf_rules.specs.declared.sort.Sort.{Sort}
use Rattle.lf_rules.specs.declared.sort.Sort.TheVariants as sorts
use Rattle.lf_rules.specs.declared.sort.Scope.{Scope}
use Rattle.lf_rules.specs.declared.sort.Scope.TheVariants as scopes
use Rattle.lf_rules.specs.declared.sort.Within.{Within}
use Rattle.lf_rules.specs.declared.sort.Within.TheVariants as withins
use Rattle.lf_rules.specs.declared.expr.Leaf.{Leaf}
use Rattle.lf_rules.specs.declared.expr.Leaf.TheVariants as leaves
use Rattle.lf_rules.specs.declared.expr.Unary.{Unary}
use Rattle.lf_rules.specs.declared.expr.Unary.TheVariants as unaries
use Rattle.lf_rules.specs.declared.expr.Binary.{Binary}
use Rattle.lf_rules.specs.declared.expr.Binary.TheVariants as binaries
use Rattle.lf_rules.specs.declared.expr.Row.{Row}
use Rattle.lf_rules.specs.declared.expr.Row.TheVariants as rows
use Rattle.lf_rules.specs.declared.expr.Over.{Over}
use Rattle.lf_rules.specs.declared.expr.Over.TheVariants as overs
use Rattle.lf_rules.specs.Terms.{Term}
use Rattle.lf_rules.specs.Terms as terms
use Rattle.lf_rules.specs.declared.definition.Variable.{Variable}
use Rattle.lf_rules.specs.declared.definition.NoteForm.{NoteForm}
use Rattle.lf_rules.specs.declared.definition.Constant.{Constant}
use Rattle.lf_rules.specs.declared.definition.Named.{Named}
use Rattle.lf_rules.specs.declared.definition.Guard.{Guard}
use Rattle.lf_rules.specs.declared.definition.Definition.{Definition}
use Rattle.lf_rules.specs.Kinds.{sort_of}
use Rattle.lf_rules.specs.Tables.{is_one, is_table}

abbrev pub same_sort : Sort → Sort → Bool
same_sort sorts.Number sorts.Number = true
same_sort sorts.Truth sorts.Truth = true
same_sort sorts.Nodes sorts.Nodes = true
same_sort (sorts.Word a) (sorts.Word b) = a == b
same_sort one other = false

-- an expression is of a sort
abbrev pub is_of : Option Sort → Sort → Bool
is_of None sort = false
is_of (Some found) sort = same_sort found sort

-- a sort, where something is so
abbrev pub where_so : Bool → Option Sort → Option Sort
where_so true found = found
where_so false found = None

-- what may be named where: constants, the state and the node itself, named expressions, the step, and named guards
abbrev pub names_constants : Scope → Bool
names_constants scopes.Given = false
names_constants other = true

abbrev pub names_state : Scope → Bool
names_state scopes.Given = false
names_state scopes.Who = false
names_state other = true

abbrev pub names_lets : Scope → Bool
names_lets scopes.Given = false
names_lets scopes.Who = false
names_lets scopes.Let = false
names_lets other = true

abbrev pub is_rule : Scope → Bool
is_rule scopes.Plain = true
is_rule (scopes.Note form) = true
is_rule other = false

abbrev pub names_facts : Scope → Bool
names_facts scopes.Outcome = true
names_facts scope = is_rule scope

-- it is a node but where there is none, and a body stands in no other body
abbrev pub names_it : Within → Bool
names_it withins.Nothing = false
names_it other = true

abbrev pub has_bodies : Within → Bool
has_bodies withins.Body = false
has_bodies other = true

-- what of a definition has a number
abbrev pub constant_sort : Option Constant → Option Sort
constant_sort None = None
constant_sort (Some x) = Some x.sort

abbrev pub let_sort : Option Named → Option Sort
let_sort None = None
let_sort (Some x) = Some x.sort

abbrev pub fact_sort : Option Guard → Option Sort
fact_sort None = None
fact_sort (Some x) = Some sorts.Truth

-- a variable that is no table has a value of its own
abbrev pub variable_sort : Option Variable → Option Sort
variable_sort None = None
variable_sort (Some x) = where_so (is_one x.cells) (Some (sort_of x.kind))

abbrev pub cell_sort : Option Variable → Option Sort
cell_sort None = None
cell_sort (Some x) = Some (sort_of x.kind)

abbrev pub kind_sort : Option Kind → Option Sort
kind_sort None = None
kind_sort (Some kind) = Some (sort_of kind)

abbrev pub field_sort : Option NoteForm → ℕ → Option Sort
field_sort None i = None
field_sort (Some form) i = kind_sort (slice_get form.fields i)

abbrev pub word_sort : Option Variable → ℕ → ℕ → Option Sort
word_sort None of word = None
word_sort (Some x) of word = where_so (nat_lt word (length x.words)) (Some (sorts.Word of))

-- the sender and the fields are named in rules on a note
abbrev pub sender_sort : Scope → Option Sort
sender_sort (scopes.Note form) = Some sorts.Number
sender_sort other = None

module _ (d : Definition) where
  abbrev pub heard_sort : Scope → ℕ → Option Sort
  heard_sort (scopes.Note form) i = field_sort (slice_get d.notes form) i
  heard_sort other i = None

  -- what an expression begins with
  abbrev pub leaf_sort : Scope → Within → Leaf → Option Sort
  leaf_sort scope within (leaves.Number n) = Some sorts.Number
  leaf_sort scope within (leaves.Truth b) = Some sorts.Truth
  leaf_sort scope within (leaves.Word of word) = word_sort (slice_get d.variables of) of word
  leaf_sort scope within leaves.Empty = Some sorts.Nodes
  leaf_sort scope within leaves.Nodes = Some sorts.Number
  leaf_sort scope within leaves.All = Some sorts.Nodes
  leaf_sort scope within (leaves.Given i) = where_so (names_constants scope) (constant_sort (slice_get d.given i))
  leaf_sort scope within leaves.Me = where_so (names_state scope) (Some sorts.Number)
  leaf_sort scope within leaves.Step = where_so (is_rule scope) (Some sorts.Number)
  leaf_sort scope within leaves.Sender = sender_sort scope
  leaf_sort scope within (leaves.Field i) = heard_sort scope i
  leaf_sort scope within (leaves.Variable i) = where_so (names_state scope) (variable_sort (slice_get d.variables i))
  leaf_sort scope within leaves.Clamped = where_so (names_state scope) (Some sorts.Truth)
  leaf_sort scope within leaves.Replaced = where_so (names_state scope) (Some sorts.Truth)
  leaf_sort scope within (leaves.Let i) = where_so (names_lets scope) (let_sort (slice_get d.lets i))
  leaf_sort scope within (leaves.Fact i) = where_so (names_facts scope) (fact_sort (slice_get d.facts i))
  leaf_sort scope within leaves.It = where_so (names_it within) (Some sorts.Number)

  -- what has an item for each of some places
  abbrev pub row_sort : Scope → Row → Option Sort
  row_sort scope (rows.Table t) = where_so (names_state scope && is_table d t) (cell_sort (slice_get d.variables t.of))
  row_sort scope (rows.Given i) = where_so (names_state scope) (constant_sort (slice_get d.given i))

-- what an operator takes, and what it gives
abbrev pub taken : Unary → Sort
taken unaries.Not = sorts.Truth
taken unaries.Count = sorts.Nodes
taken unaries.Lowest = sorts.Nodes
taken unaries.Highest = sorts.Nodes
taken unaries.Only = sorts.Number

abbrev pub gives : Unary → Sort
gives unaries.Not = sorts.Truth
gives unaries.Only = sorts.Nodes
gives other = sorts.Number

abbrev pub unary_sort : Unary → Option Sort → Option Sort
unary_sort op a = where_so (is_of a (taken op)) (Some (gives op))

-- two values are the same only where they are of one sort, whichever
abbrev pub alike : Option Sort → Option Sort → Bool
alike a None = false
alike a (Some b) = is_of a b

abbrev pub takes : Binary → Option Sort → Option Sort → Bool
takes binaries.Equal a b = alike a b
takes binaries.And a b = is_of a sorts.Truth && is_of b sorts.Truth
takes binaries.Or a b = is_of a sorts.Truth && is_of b sorts.Truth
takes binaries.In a b = is_of a sorts.Number && is_of b sorts.Nodes
takes binaries.Union a b = is_of a sorts.Nodes && is_of b sorts.Nodes
takes binaries.Without a b = is_of a sorts.Nodes && is_of b sorts.Nodes
takes binaries.Majority a b = is_of a sorts.Nodes && is_of b sorts.Nodes
takes other a b = is_of a sorts.Number && is_of b sorts.Number

abbrev pub made : Binary → Sort
made binaries.Union = sorts.Nodes
made binaries.Without = sorts.Nodes
made binaries.Between = sorts.Nodes
made binaries.Add = sorts.Number
made binaries.Subtract = sorts.Number
made binaries.Smaller = sorts.Number
made binaries.Larger = sorts.Number
made binaries.Remainder = sorts.Number
made other = sorts.Truth

abbrev pub binary_sort : Binary → Option Sort → Option Sort → Option Sort
binary_sort op a b = where_so (takes op a b) (Some (made op))

-- what stands at a place
abbrev pub at_sort : Option Sort → Option Sort → Option Sort
at_sort items place = where_so (is_of place sorts.Number) items

-- what a body is, and what comes of it
abbrev pub body_of : Over → Sort
body_of overs.Those = sorts.Truth
body_of other = sorts.Number

abbrev pub comes_of : Over → Sort
comes_of overs.Those = sorts.Nodes
comes_of other = sorts.Number

abbrev pub over_sort : Over → Option Sort → Option Sort → Option Sort
over_sort op set body = where_so (is_of set sorts.Nodes && is_of body (body_of op)) (Some (comes_of op))

-- what an expression is where it stands, if it is anything
module _ (d : Definition) (scope : Scope) where
  abbrev pub tree_sort : Within → Term → Option Sort
  tree_sort within (terms.Leaf x) = leaf_sort d scope within x
  tree_sort within (terms.Unary op a) = unary_sort op (tree_sort within a)
  tree_sort within (terms.Binary op a b) = binary_sort op (tree_sort within a) (tree_sort within b)
  tree_sort within (terms.At row place) = at_sort (row_sort d scope row) (tree_sort within place)
  tree_sort within (terms.Over op set body) =
      where_so (names_state scope && has_bodies within) (over_sort op (tree_sort within set) (tree_sort withins.Body body))

-- an expression is of a sort where it stands
abbrev pub is_a : Definition → Scope → Within → Sort → Term → Bool
is_a d scope within sort e = is_of (tree_sort d scope within e) sort
