-- A definition with one thing of one rule changed, and all such changes.
use Rattle.std.specs.Prelude.{ℕ, zero, suc, ◌+◌, ◌-◌, Bool, true, false, nat_lt, if◌then◌else◌}
use Rattle.std.specs.Prelude.{List, [], ◌∷◌, ◌++◌, length, Option, None, Some}
use Rattle.std.specs.List.{flat_map, remove}
use Rattle.std.specs.Option.{option_map}
use Rattle.lf_rules.specs.declared.expr.Leaf.TheVariants as leaves
use Rattle.lf_rules.specs.Terms as terms
use Rattle.lf_rules.specs.Forms.{is_from}
use Rattle.lf_rules.specs.declared.rule.Rule.{Rule}
use Rattle.lf_rules.specs.declared.rule.Chain.{Chain}
use Rattle.lf_rules.specs.declared.definition.Definition.{Definition}
use Rattle.lf_mutations.specs.declared.mutation.Mutation.{Mutation}
use Rattle.lf_mutations.specs.declared.mutation.Mutation.TheVariants as those

-- the number of the rule that changes
abbrev pub number_of : Mutation → ℕ
number_of (those.Never rule) = rule
number_of (those.Always rule) = rule
number_of (those.Unset rule place) = rule
number_of (those.Unsent rule place) = rule

-- a list without the item at a place, which are numbered from 1, if there is one
abbrev pub without : {X : Type 0} → ℕ → List X → Option (List X)
without place xs = if is_from 1 (length xs) place then Some (remove xs (place - 1)) else None

-- the rule with the change made, if it has what is changed
abbrev pub changed : Mutation → Rule → Option Rule
changed (those.Never rule) x = Some (record x { guard = terms.Leaf (leaves.Truth false) })
changed (those.Always rule) x = Some (record x { guard = terms.Leaf (leaves.Truth true) })
changed (those.Unset rule place) x = option_map (λ sets. record x { sets = sets }) (without place x.sets)
changed (those.Unsent rule place) x = option_map (λ sends. record x { sends = sends }) (without place x.sends)

-- the rules with the change made in the one that has k before it, if there is such a rule
abbrev pub in_rules : Mutation → ℕ → List Rule → Option (List Rule)
in_rules m k [] = None
in_rules m zero (x ∷ xs) = option_map (λ y. y ∷ xs) (changed m x)
in_rules m (suc k) (x ∷ xs) = option_map (λ ys. x ∷ ys) (in_rules m k xs)

-- the chains with the change made in the rule that has k before it
abbrev pub in_chains : Mutation → ℕ → List Chain → Option (List Chain)
in_chains m k [] = None
in_chains m k (x ∷ xs) =
    if nat_lt k (length x.rules)
    then option_map (λ rules. record x { rules = rules } ∷ xs) (in_rules m k x.rules)
    else option_map (λ ys. x ∷ ys) (in_chains m (k - length x.rules) xs)

-- the chains with the change made in the rule with a number, which begin with 1
abbrev pub in_numbered : Mutation → ℕ → List Chain → Option (List Chain)
in_numbered m zero xs = None
in_numbered m (suc k) xs = in_chains m k xs

-- the definition with the change made
abbrev pub mutated : Definition → Mutation → Option Definition
mutated d m = option_map (λ chains. record d { chains = chains }) (in_numbered m (number_of m) d.chains)

-- what is left out of a list, each item by its place, where they are numbered from a place on
abbrev pub each_place : {X : Type 0} → (ℕ → Mutation) → ℕ → List X → List Mutation
each_place leave place [] = []
each_place leave place (x ∷ xs) = leave place ∷ each_place leave (place + 1) xs

-- what may be left out of a rule
abbrev pub left_out : Bool → ℕ → Rule → List Mutation
left_out false rule x = []
left_out true rule x = each_place (those.Unset rule) 1 x.sets ++ each_place (those.Unsent rule) 1 x.sends

-- all changes of a rule with a number
abbrev pub mutations_of : Bool → ℕ → Rule → List Mutation
mutations_of deep rule x = those.Never rule ∷ those.Always rule ∷ left_out deep rule x

-- all changes of rules that are numbered from k on
abbrev pub mutations_from : Bool → ℕ → List Rule → List Mutation
mutations_from deep k [] = []
mutations_from deep k (x ∷ xs) = mutations_of deep k x ++ mutations_from deep (k + 1) xs

-- the rules of all chains, in order
abbrev pub rules_of : List Chain → List Rule
rules_of chains = flat_map (λ x. x.rules) chains

-- all changes of a definition
abbrev pub mutations : Definition → Bool → List Mutation
mutations d deep = mutations_from deep 1 (rules_of d.chains)
