-- What names stand for where an expression stands.
use Rattle.std.specs.Prelude.{ℕ, suc, Bool, true, false, not, ◌&&◌, nat_lt, List, [], ◌∷◌, Option, Some, None, codes, if◌then◌else◌, slice_get}
use Rattle.std.specs.Str.{bytes_eq}
use Rattle.lf_rules.specs.declared.expr.Leaf.{Leaf}
use Rattle.lf_rules.specs.declared.expr.Leaf.TheVariants as leaves
use Rattle.lf_rules.specs.declared.expr.Row.{Row}
use Rattle.lf_rules.specs.declared.expr.Row.TheVariants as rows
use Rattle.lf_rules.specs.declared.table.Cells.{Cells}
use Rattle.lf_rules.specs.declared.definition.Variable.{Variable}
use Rattle.lf_rules.specs.declared.definition.Definition.{Definition}
use Rattle.lf_rules.specs.declared.sort.Scope.{Scope}
use Rattle.lf_rules.specs.declared.sort.Within.{Within}
use Rattle.lf_rules.specs.declared.sort.Within.TheVariants as withins
use Rattle.lf_rules.specs.Sorts.{names_state, has_bodies}
use Rattle.lf_rules.specs.Tables.{is_one, others_of}
use Rattle.lf_grammar.specs.declared.place.Meaning.{Meaning}
use Rattle.lf_grammar.specs.declared.place.Place.{Place}

-- where an expression stands: in which protocol, as far as it is read, what its note's fields and all other names mean there, what may be named, and
-- what `it` is
pub record Context : Type 0 where
  pub definition : Definition
  pub fields : List (List ℕ)
  pub names : List Meaning
  pub scope : Scope
  pub within : Within

abbrev pub context_of : Place → Context
context_of place = record {
  definition = place.definition.now;
  fields = place.fields.now;
  names = place.names.now;
  scope = place.scope;
  within = place.within;
}

-- where a body stands that stands here
abbrev pub in_body : Context → Context
in_body at = record { definition = at.definition; fields = at.fields; names = at.names; scope = at.scope; within = withins.Body }

abbrev pub in_case : Bool → Context → Option Context
in_case true at = Some at
in_case false at = None

-- the same, where a body may stand: where the state is named, and in no other body
abbrev pub body_at : Context → Option Context
body_at at = in_case (names_state at.scope && has_bodies at.within) (in_body at)

-- what a word of the language stands for
abbrev pub fixed : List ℕ → Option Leaf
fixed word =
    if bytes_eq word (codes "t") then Some leaves.Step else if bytes_eq word (codes "me") then Some leaves.Me
    else if bytes_eq word (codes "sender") then Some leaves.Sender else if bytes_eq word (codes "nodes") then Some leaves.Nodes
    else if bytes_eq word (codes "all") then Some leaves.All else if bytes_eq word (codes "true") then Some (leaves.Truth true)
    else if bytes_eq word (codes "false") then Some (leaves.Truth false) else if bytes_eq word (codes "clamped") then Some leaves.Clamped
    else if bytes_eq word (codes "replaced") then Some leaves.Replaced else if bytes_eq word (codes "it") then Some leaves.It else None

-- the first of some, where it is one, and else the other
abbrev pub first_of : Option Leaf → Option Leaf → Option Leaf
first_of None other = other
first_of (Some leaf) other = Some leaf

-- the field with a name, from a number on; `_` is no name
abbrev pub field_from : ℕ → List ℕ → List (List ℕ) → Option Leaf
field_from i word [] = None
field_from i word (name ∷ names) =
    if bytes_eq name word && not (bytes_eq word (codes "_")) then (if nat_lt i 256 then Some (leaves.Field i) else None) else field_from (suc i) word names

-- what has a name in the protocol so far
abbrev pub declared_in : List ℕ → List Meaning → Option Leaf
declared_in word [] = None
declared_in word (x ∷ xs) = if bytes_eq x.name word then Some x.leaf else declared_in word xs

-- what a word stands for: in the language, among the fields, or in the protocol
abbrev pub leaf_of : List (List ℕ) → List Meaning → List ℕ → Option Leaf
leaf_of fields names word = first_of (fixed word) (first_of (field_from 0 word fields) (declared_in word names))

-- the cells of a variable that is a table
abbrev pub table_by : ℕ → ℕ → Cells → Option Row
table_by i others cells =
    if is_one cells then None else if nat_lt others 256 then Some (rows.Table (record { of = i; others = others; cells = cells })) else None

abbrev pub table_of : Definition → ℕ → Option Variable → Option Row
table_of d i None = None
table_of d i (Some x) = table_by i (others_of d i) x.cells

-- what has the items that a name with brackets behind it stands for
abbrev pub row_of : Definition → Leaf → Option Row
row_of d (leaves.Variable i) = table_of d i (slice_get d.variables i)
row_of d (leaves.Given i) = Some (rows.Given i)
row_of d other = None
