-- Constants that a scenario may change.
use Rattle.std.specs.Prelude.{ℕ, ℤ, pos, negsuc, Bool, true, false, ◌&&◌, nat_lt, nat_le, if◌then◌else◌, List, [], ◌∷◌, ◌++◌, length, Ok, Err}
use Rattle.toml.specs.Data.{Data, string, integer, boolean, array, Items, no_items, item}
use Rattle.lf_rules.specs.Sorts.{same_sort}
use Rattle.lf_rules.specs.declared.definition.Constant.{Constant}
use Rattle.lf_rules.specs.declared.definition.Given.{Given}
use Rattle.lf_rules.specs.declared.definition.Given.TheVariants as givens
use Rattle.lf_rules.specs.declared.definition.Value.{Value}
use Rattle.lf_rules.specs.declared.definition.Value.TheVariants as values
use Rattle.lf_rules.specs.declared.expr.Leaf.TheVariants as leaves
use Rattle.lf_rules.specs.declared.sort.Scope.TheVariants as scopes
use Rattle.lf_rules.specs.declared.sort.Sort.{Sort}
use Rattle.lf_rules.specs.declared.sort.Sort.TheVariants as sorts
use Rattle.lf_texts.specs.Values.{nodes_in}
use Rattle.lf_protocol_file.specs.declared.draft.Draft.{Draft}
use Rattle.lf_protocol_file.specs.declared.fault.Fault.TheVariants as faults
use Rattle.lf_protocol_file.specs.Readings.{Valued, ◌>>=◌, as_value}
use Rattle.lf_protocol_file.specs.Texts.{tokens_in, count_items}
use Rattle.lf_protocol_file.specs.Drafts.{place_in, check_new, with_name, number_after}

-- what a value is: a text is a set of nodes
abbrev pub value_sort : Data → Valued Sort
value_sort (integer z) = Ok sorts.Number
value_sort (boolean b) = Ok sorts.Truth
value_sort (string text) = Ok sorts.Nodes
value_sort other = Err faults.WrongKind

abbrev pub found_of_sort : Sort → Valued Sort → Bool
found_of_sort sort (Ok found) = same_sort found sort
found_of_sort sort (Err e) = false

abbrev pub is_of_sort : Sort → Data → Bool
is_of_sort sort x = found_of_sort sort (value_sort x)

abbrev pub are_all : Sort → Items → Bool
are_all sort no_items = true
are_all sort (item x xs) = is_of_sort sort x && are_all sort xs

-- a list has one value at least, all of one sort, and 8 at most
unfoldable pub listed_sort : Items → Valued Sort
listed_sort no_items = Err faults.PastLimit
listed_sort (item x xs) = do
  sort ← value_sort x
  if are_all sort xs then (if nat_lt (count_items xs) 8 then Ok sort else Err faults.PastLimit) else Err faults.WrongKind

-- what a constant is
abbrev pub given_sort : Data → Valued Sort
given_sort (array xs) = listed_sort xs
given_sort other = value_sort other

-- a number up to 255
abbrev pub number_in : ℤ → Valued Value
number_in (pos n) = if nat_le n 255 then Ok (values.Number n) else Err faults.PastLimit
number_in (negsuc n) = Err faults.PastLimit

-- a text that is a set of nodes
unfoldable pub nodes_value : Draft → Data → Valued Value
nodes_value d x = do
  ts ← tokens_in x
  e ← as_value (nodes_in (place_in d [] scopes.Given) ts)
  Ok (values.Nodes e)

abbrev pub value_in : Draft → Data → Valued Value
value_in d (integer z) = number_in z
value_in d (boolean b) = Ok (values.Truth b)
value_in d other = nodes_value d other

-- the values of items, behind those before
abbrev pub values_behind : Draft → List Value → Items → Valued (List Value)
values_behind d before no_items = Ok before
values_behind d before (item x xs) = value_in d x >>= λ v. values_behind d (before ++ v ∷ []) xs

-- one value for all nodes, or one for each node
unfoldable pub given_in : Draft → Data → Valued Given
given_in d (array xs) = values_behind d [] xs >>= λ vs. Ok (givens.Each vs)
given_in d other = value_in d other >>= λ v. Ok (givens.One v)

abbrev pub with_given : Constant → Draft → Draft
with_given x d = record d { definition = record d.definition { given = d.definition.given ++ x ∷ [] } }

-- one more constant: its name, then its kind, then its values
unfoldable pub with_constant : Draft → List ℕ → Data → Valued Draft
with_constant d key x = do
  fit ← check_new d key
  sort ← given_sort x
  value ← given_in d x
  Ok (with_given (record { name = key; sort = sort; value = value }) (with_name key (leaves.Given (number_after (length d.definition.given))) d))
