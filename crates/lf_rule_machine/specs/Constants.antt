-- The values of constants among so many nodes.
use Rattle.std.specs.Prelude.{ℕ, Bool, true, false, ◌&&◌, ◌==◌, List, [], ◌∷◌, length, map, Option, None, Some, slice_get, replicate}
use Rattle.std.specs.List.{range_with_len}
use Rattle.lf_rules.specs.declared.definition.Value.{Value}
use Rattle.lf_rules.specs.declared.definition.Value.TheVariants as values
use Rattle.lf_rules.specs.declared.definition.Given.{Given}
use Rattle.lf_rules.specs.declared.definition.Given.TheVariants as givens
use Rattle.lf_rules.specs.declared.definition.Constant.{Constant}
use Rattle.lf_rules.specs.declared.definition.Definition.{Definition}
use Rattle.lf_rules.specs.Forms.{is_given}
use Rattle.lf_rule_machine.specs.Sets.{truth, nodes_in}
use Rattle.lf_rule_machine.specs.Values.{fixed_value}

-- a value of a constant as a number. It names no constants
abbrev pub constant_value : ℕ → Value → ℕ
constant_value nodes (values.Number n) = n
constant_value nodes (values.Truth b) = truth b
constant_value nodes (values.Nodes e) = nodes_in (fixed_value nodes (replicate 16 0) e)

-- the value of a constant at node n: of a list the n-th item
abbrev pub item_value : ℕ → Option Value → ℕ
item_value nodes None = 0
item_value nodes (Some v) = constant_value nodes v

abbrev pub value_at : ℕ → ℕ → Given → ℕ
value_at nodes n (givens.One v) = constant_value nodes v
value_at nodes n (givens.Each vs) = item_value nodes (slice_get vs n)

abbrev pub given_value : ℕ → ℕ → Option Given → ℕ
given_value nodes n None = 0
given_value nodes n (Some given) = value_at nodes n given

-- the values of all constants at node n, and at each node
abbrev pub given_at : ℕ → List Given → ℕ → List ℕ
given_at nodes given n = map (λ i. given_value nodes n (slice_get given i)) (range_with_len 0 16)

abbrev pub given_table : ℕ → List Given → List (List ℕ)
given_table nodes given = map (given_at nodes given) (range_with_len 0 8)

-- a list has an item for each node
abbrev pub is_for : ℕ → Given → Bool
is_for nodes (givens.One v) = true
is_for nodes (givens.Each vs) = length vs == nodes

-- values fit the constants that there are
abbrev pub are_given : Definition → ℕ → List Constant → List Given → Bool
are_given d nodes [] [] = true
are_given d nodes [] (v ∷ vs) = false
are_given d nodes (x ∷ xs) [] = false
are_given d nodes (x ∷ xs) (v ∷ vs) = is_given d x.sort v && (is_for nodes v && are_given d nodes xs vs)
