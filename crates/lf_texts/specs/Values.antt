-- Texts that are expressions.
use Rattle.std.specs.Prelude.{true, false, nat_le, if◌then◌else◌, List, [], ◌∷◌, codes, Ok, Err}
use Rattle.lf_rules.specs.Sorts.{same_sort}
use Rattle.lf_rules.specs.Terms.{Term}
use Rattle.lf_rules.specs.Terms as terms
use Rattle.lf_rules.specs.Trees.{parts}
use Rattle.lf_rules.specs.declared.expr.Leaf.TheVariants as leaves
use Rattle.lf_rules.specs.declared.sort.Sort.{Sort}
use Rattle.lf_rules.specs.declared.sort.Sort.TheVariants as sorts
use Rattle.lf_rules.specs.declared.sort.Within.{Within}
use Rattle.lf_grammar.specs.declared.token.Token.{Token}
use Rattle.lf_grammar.specs.Expressions.{first_truth, first_sum}
use Rattle.lf_grammar.specs.Fronts.{behind_word}
use Rattle.lf_grammar.specs.Places.{Context}
use Rattle.lf_grammar.specs.Typing.{Said, as_set}
use Rattle.lf_texts.specs.declared.error.TextError.TheVariants as faults
use Rattle.lf_texts.specs.declared.values.When.{When}
use Rattle.lf_texts.specs.Fronts.{ended}
use Rattle.lf_texts.specs.Lists.{where_some}
use Rattle.lf_texts.specs.Reading.{Reading, ◌>>=◌, wanted, Read}

-- the same place, where `it` is something else
abbrev pub with_it : Within → Context → Context
with_it within at = record at { within = within }

-- an expression of no more than 256 parts
abbrev pub expression : Term → Reading Term
expression e = if nat_le (parts e) 256 then Ok e else Err faults.Unfit

-- one that is of a sort
abbrev pub of_sort : Sort → Said → Reading Term
of_sort sort a = if same_sort a.sort sort then expression a.term else Err faults.Unfit

-- a value of a sort, and the tokens behind it
unfoldable pub first_of_sort : Context → Sort → List Token → Reading (Read Term)
first_of_sort at sort ts = do
  x ← wanted (first_truth at ts)
  e ← of_sort sort x.said
  Ok (record { value = e; rest = x.rest })

-- a set of nodes, and the tokens behind it; a number stands for the set with it alone
unfoldable pub first_nodes : Context → List Token → Reading (Read Term)
first_nodes at ts = do
  x ← wanted (first_sum at ts)
  a ← wanted (as_set x.said)
  e ← of_sort sorts.Nodes a
  Ok (record { value = e; rest = x.rest })

-- a set of nodes to the end, a value of any sort, and a truth value
unfoldable pub nodes_in : Context → List Token → Reading Term
nodes_in at ts = do
  x ← first_nodes at ts
  end ← ended x.rest
  Ok x.value

unfoldable pub value_in : Context → List Token → Reading (Term × Sort)
value_in at ts = do
  x ← wanted (first_truth at ts)
  end ← ended x.rest
  e ← expression x.said.term
  Ok (e, x.said.sort)

unfoldable pub guard_in : Context → List Token → Reading Term
guard_in at ts = do
  x ← first_of_sort at sorts.Truth ts
  end ← ended x.rest
  Ok x.value

-- what stands behind else: a truth value, or nothing, which stands for true
abbrev pub else_in : Context → List Token → Reading Term
else_in at [] = Ok (terms.Leaf (leaves.Truth true))
else_in at (t ∷ ts) = guard_in at (t ∷ ts)

-- when a rule is taken: a truth value, or else
unfoldable pub when_in : Context → List Token → Reading When
when_in at ts =
    where_some (behind_word (codes "else") ts) (guard_in at ts >>= λ e. Ok (record { is_else = false; guard = e }))
    (λ rest. else_in at rest >>= λ e. Ok (record { is_else = true; guard = e }))
