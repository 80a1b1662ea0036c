-- What rules set.
use Rattle.std.specs.Prelude.{ℕ, Bool, false, not, ◌&&◌, ◌==◌, List, [], Option, Some, None, Ok, Err, slice_get}
use Rattle.std.specs.List.{list_any}
use Rattle.lf_rules.specs.Forms.{within_of}
use Rattle.lf_rules.specs.Kinds.{sort_of}
use Rattle.lf_rules.specs.Tables.{is_one, is_each_node}
use Rattle.lf_rules.specs.Terms.{Term}
use Rattle.lf_rules.specs.declared.definition.Variable.{Variable}
use Rattle.lf_rules.specs.declared.expr.Leaf.{Leaf}
use Rattle.lf_rules.specs.declared.expr.Leaf.TheVariants as leaves
use Rattle.lf_rules.specs.declared.expr.Row.{Row}
use Rattle.lf_rules.specs.declared.expr.Row.TheVariants as rows
use Rattle.lf_rules.specs.declared.rule.Assignment.{Assignment}
use Rattle.lf_rules.specs.declared.rule.Target.{Target}
use Rattle.lf_rules.specs.declared.rule.Target.TheVariants as targets
use Rattle.lf_rules.specs.declared.sort.Sort.{Sort}
use Rattle.lf_rules.specs.declared.sort.Sort.TheVariants as sorts
use Rattle.lf_rules.specs.declared.sort.Within.{Within}
use Rattle.lf_rules.specs.declared.sort.Within.TheVariants as withins
use Rattle.lf_rules.specs.declared.table.Cells.{Cells}
use Rattle.lf_rules.specs.declared.table.Table.{Table}
use Rattle.lf_grammar.specs.declared.sign.Sign.TheVariants as signs
use Rattle.lf_grammar.specs.declared.token.Token.{Token}
use Rattle.lf_grammar.specs.Expressions.{first_sum}
use Rattle.lf_grammar.specs.Places.{Context, leaf_of, row_of}
use Rattle.lf_texts.specs.declared.assignments.Aim.{Aim}
use Rattle.lf_texts.specs.declared.error.TextError.TheVariants as faults
use Rattle.lf_texts.specs.Fronts.{ended, first_word, past}
use Rattle.lf_texts.specs.Lists.{listed}
use Rattle.lf_texts.specs.Reading.{Reading, ◌>>=◌, Read, checked, wanted}
use Rattle.lf_texts.specs.Values.{with_it, expression, first_of_sort}

-- a variable by its number, what its values are, and how many cells it has
abbrev pub variable_at : ℕ → Option Variable → Reading (ℕ × Sort × Cells)
variable_at i None = Err faults.Unfit
variable_at i (Some x) = Ok (i, sort_of x.kind, x.cells)

abbrev pub variable_of : List Variable → Option Leaf → Reading (ℕ × Sort × Cells)
variable_of variables (Some (leaves.Variable i)) = variable_at i (slice_get variables i)
variable_of variables other = Err faults.Unfit

-- the variable that a word means
abbrev pub variable_named : Context → List ℕ → Reading (ℕ × Sort × Cells)
variable_named at word = variable_of at.definition.variables (leaf_of at.fields at.names word)

-- a variable is set as a whole
abbrev pub is_variable : ℕ → Target → Bool
is_variable i (targets.Variable other) = other == i
is_variable i other = false

abbrev pub is_set : List Assignment → ℕ → Bool
is_set before variable = list_any (λ x. is_variable variable x.target) before

-- a variable that is no table is set as a whole, and once
abbrev pub whole : List Assignment → ℕ × Sort × Cells → Reading Aim
whole before v = checked (is_one v.2 && not (is_set before v.0)) >>= λ fit. Ok (record { target = targets.Variable v.0; sort = v.1 })

-- the cell at a place, or the cells of a set of nodes, where each node has one
abbrev pub target_at : Table → Sort → Term → Reading Target
target_at t sorts.Number e = Ok (targets.Cell t e)
target_at t sorts.Nodes e = checked (is_each_node t.cells) >>= λ fit. Ok (targets.Cells t e)
target_at t other e = Err faults.Unfit

-- of a table what stands in brackets, where `it` is nothing
unfoldable pub first_cell : Context → Table → List Token → Reading (Read Target)
first_cell at t ts = do
  inner ← past signs.OpenSquare ts
  x ← wanted (first_sum (with_it withins.Nothing at) inner)
  e ← expression x.said.term
  target ← target_at t x.said.sort e
  rest ← past signs.CloseSquare x.rest
  Ok (record { value = target; rest = rest })

-- by what has the items of a variable's name
abbrev pub aim_by : Context → List Assignment → ℕ × Sort × Cells → Option Row → List Token → Reading (Read Aim)
aim_by at before v (Some (rows.Table t)) ts = first_cell at t ts >>= λ x. Ok (record { value = record { target = x.value; sort = v.1 }; rest = x.rest })
aim_by at before v other ts = whole before v >>= λ aim. Ok (record { value = aim; rest = ts })

-- what is set, behind some, and what its value has to be
unfoldable pub first_aim : Context → List Assignment → List Token → Reading (Read Aim)
first_aim at before ts = do
  x ← first_word ts
  v ← variable_named at x.value
  aim_by at before v (row_of at.definition (leaves.Variable v.0)) x.rest

-- in the value for a cell that a node has, `it` is the node
abbrev pub within_value : Target → Within
within_value (targets.Variable i) = withins.Nothing
within_value (targets.Cell t place) = within_of t.cells
within_value (targets.Cells t places) = withins.Receiver

-- an assignment behind others: what it sets, and a value for it
unfoldable pub first_set : Context → List Assignment → List Token → Reading (Read Assignment)
first_set at before ts = do
  x ← first_aim at before ts
  inner ← past signs.Equal x.rest
  e ← first_of_sort (with_it (within_value x.value.target) at) x.value.sort inner
  Ok (record { value = record { target = x.value.target; value = e.value }; rest = e.rest })

-- what a rule sets
unfoldable pub sets_in : Context → List Token → Reading (List Assignment)
sets_in at ts = do
  x ← listed (first_set at) signs.Comma 16 [] ts
  end ← ended x.rest
  Ok x.value
