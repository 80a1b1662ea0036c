-- Where a rule stands, and what changes there.
use Rattle.std.specs.Prelude.{◌≡◌, ℕ, ◌+◌, ◌<◌, ◌≤◌, List, length, take, Option, Some, slice_get, slice_set}
use Rattle.std.specs.Option.{option_map, option_and_then}
use Rattle.lf_rules.specs.Forms.{rules_in}
use Rattle.lf_rules.specs.declared.rule.Rule.{Rule}
use Rattle.lf_rules.specs.declared.rule.Chain.{Chain}
use Rattle.lf_mutations.specs.declared.mutation.Mutation.{Mutation}
use Rattle.lf_mutations.specs.declared.places.Place.{Place}
use Rattle.lf_mutations.specs.Mutations.{changed}

-- a rule stands there
pub record IsIn (chains : List Chain) (at : Place) : Type 0 where
  pub chain : Chain
  pub there : slice_get chains at.chain ≡ Some chain
  pub within : at.rule < length chain.rules

-- and has so many rules before it
pub record IsPlace (chains : List Chain) (k : ℕ) (at : Place) : Type 0 where
  pub is_in : IsIn chains at
  pub count : rules_in (take at.chain chains) + at.rule ≡ k

-- a rule is so short that its places are few
pub record IsShort (x : Rule) : Type 0 where
  pub sets : length x.sets ≤ 16
  pub sends : length x.sends ≤ 8

-- the rules with the change made in the one at an index
abbrev pub in_rules_at : Mutation → ℕ → List Rule → Option (List Rule)
in_rules_at m i xs = option_and_then (λ x. option_map (λ y. slice_set xs i y) (changed m x)) (slice_get xs i)

-- the chains with the change made in the rule at a place
abbrev pub at_place : Mutation → Place → List Chain → Option (List Chain)
at_place m at xs =
    option_and_then (λ x. option_map (λ rules. slice_set xs at.chain (record x { rules = rules })) (in_rules_at m at.rule x.rules))
    (slice_get xs at.chain)
