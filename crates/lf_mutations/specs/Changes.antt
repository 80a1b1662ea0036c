-- What a change is, said plainly: one rule becomes another, and all else stays the same.
use Rattle.std.specs.Prelude.{◌≡◌, ℕ, ◌-◌, ◌≤◌, true, false, List, length, Some, slice_get, slice_set}
use Rattle.std.specs.List.{AllZip, remove}
use Rattle.lf_rules.specs.declared.expr.Leaf.TheVariants as leaves
use Rattle.lf_rules.specs.Terms as terms
use Rattle.lf_rules.specs.declared.rule.Rule.{Rule}
use Rattle.lf_rules.specs.declared.rule.Chain.{Chain}
use Rattle.lf_rules.specs.declared.definition.Definition.{Definition}
use Rattle.lf_mutations.specs.declared.mutation.Mutation.{Mutation}
use Rattle.lf_mutations.specs.declared.mutation.Mutation.TheVariants as those
use Rattle.lf_mutations.specs.Mutations.{number_of, rules_of}

-- a list has an item at a place, which are numbered from 1
pub record HasPlace {X : Type 0} (place : ℕ) (xs : List X) : Type 0 where
  pub first : 1 ≤ place
  pub last : place ≤ length xs

-- a rule has what is changed
abbrev pub HasIt : Mutation → Rule → Type 0
HasIt (those.Never rule) x = Unit {0}
HasIt (those.Always rule) x = Unit {0}
HasIt (those.Unset rule place) x = HasPlace place x.sets
HasIt (those.Unsent rule place) x = HasPlace place x.sends

-- it becomes y
abbrev pub IsChanged : Mutation → Rule → Rule → Type 0
IsChanged (those.Never rule) x y = y ≡ record x { guard = terms.Leaf (leaves.Truth false) }
IsChanged (those.Always rule) x y = y ≡ record x { guard = terms.Leaf (leaves.Truth true) }
IsChanged (those.Unset rule place) x y = y ≡ record x { sets = remove x.sets (place - 1) }
IsChanged (those.Unsent rule place) x y = y ≡ record x { sends = remove x.sends (place - 1) }

-- a definition has the rule that is changed, and this has what is changed
pub record IsThere (d : Definition) (m : Mutation) : Type 0 where
  pub rule : Rule
  pub first : 1 ≤ number_of m
  pub there : slice_get (rules_of d.chains) (number_of m - 1) ≡ Some rule
  pub has : HasIt m rule

-- chains differ in their rules alone, and have as many
pub record IsSameChain (x y : Chain) : Type 0 where
  pub who : y.who ≡ x.who
  pub on : y.on ≡ x.on
  pub count : length y.rules ≡ length x.rules

-- a definition differs from another in the rule with the number alone, which is changed
pub record IsMutant (d : Definition) (m : Mutation) (e : Definition) : Type 0 where
  pub is_there : IsThere d m
  pub rule : Rule
  pub changed : IsChanged m is_there.rule rule
  pub rules : rules_of e.chains ≡ slice_set (rules_of d.chains) (number_of m - 1) rule
  pub chains : AllZip IsSameChain d.chains e.chains
  pub variables : e.variables ≡ d.variables
  pub notes : e.notes ≡ d.notes
  pub given : e.given ≡ d.given
  pub lets : e.lets ≡ d.lets
  pub facts : e.facts ≡ d.facts
  pub trace : e.trace ≡ d.trace
