-- What promises are made of: the units that have no other promise in them.
use Rattle.std.specs.Prelude.{Bool, true, nat_le, List, Option, Some, None, codes, if◌then◌else◌}
use Rattle.lf_rules.specs.declared.expr.Leaf.TheVariants as leaves
use Rattle.lf_rules.specs.declared.sort.Scope.TheVariants as scopes
use Rattle.lf_rules.specs.declared.sort.Within.TheVariants as withins
use Rattle.lf_rules.specs.Terms as terms
use Rattle.lf_rules.specs.Terms.{Term}
use Rattle.lf_rules.specs.Trees.{parts}
use Rattle.lf_rules.specs.declared.sort.Sort.{Sort}
use Rattle.lf_rules.specs.declared.sort.Sort.TheVariants as sorts
use Rattle.lf_grammar.specs.declared.token.Token.{Token}
use Rattle.lf_grammar.specs.Places.{Context}
use Rattle.lf_grammar.specs.Typing.{Said, ◌>>=◌, as_set}
use Rattle.lf_grammar.specs.Fronts.{behind_word}
use Rattle.lf_grammar.specs.Expressions.{cases_of, first_operand, first_sum}
use Rattle.lf_promises.specs.declared.promise.Many.{Many}
use Rattle.lf_promises.specs.declared.promise.Promise.{Promise}
use Rattle.lf_promises.specs.declared.promise.Promise.TheVariants as kinds
use Rattle.lf_promises.specs.Fronts.{Found, found, behind_many, behind_one_value, first_node, first_fact}

-- an expression that isn't too large
abbrev pub sized : Term → Option Term
sized term = if nat_le (parts term) 256 then Some term else None

-- one that is a set
abbrev pub set_by : Sort → Term → Option Term
set_by sorts.Nodes term = sized term
set_by other term = None

abbrev pub set_of : Said → Option Term
set_of a = set_by a.sort a.term

-- the set behind `of`; a number stands for the set of that node alone
unfoldable pub first_group : Context → List Token → Option (Found (Option Term))
first_group at ts =
    cases_of (behind_word (codes "of") ts) (found None ts)
    (λ after. first_sum at after >>= λ x. as_set x.said >>= λ a. set_of a >>= λ set. found (Some set) x.rest)

-- so many nodes of a set show a fact
unfoldable pub first_nodes : Context → Many → List Token → Option (Found Promise)
first_nodes at many ts = first_fact at.definition ts >>= λ x. first_group at x.rest >>= λ y. found (kinds.Nodes many x.value y.value) y.rest

-- a node isn't up
unfoldable pub first_down : List Token → Option (Found Promise)
first_down ts = first_node ts >>= λ x. found (kinds.Down x.value) x.rest

-- a fact, and behind `at` the node that shows it
unfoldable pub first_at : Context → List Token → Option (Found Promise)
first_at at ts =
    first_fact at.definition ts >>= λ x. behind_word (codes "at") x.rest >>= λ after. first_node after >>= λ y. found (kinds.At y.value x.value) y.rest

-- where a topic stands more may be named than in the rest of a promise
abbrev pub asking : Context → Context
asking at = record { definition = at.definition; fields = at.fields; names = at.names; scope = scopes.Outcome; within = withins.Nothing }

-- an expression that is a truth
abbrev pub truth_by : Sort → Term → Option Term
truth_by sorts.Truth term = sized term
truth_by other term = None

unfoldable pub first_value : Context → List Token → Option (Found Term)
first_value at ts = first_operand at ts >>= λ x. sized x.said.term >>= λ term. found term x.rest

-- the key behind `per`, else there is but one; and the guard behind `where`, else it is true
unfoldable pub first_key : Context → List Token → Option (Found Term)
first_key at ts = cases_of (behind_word (codes "per") ts) (found (terms.Leaf (leaves.Number 0)) ts) (λ after. first_value at after)

unfoldable pub first_guard : Context → List Token → Option (Found Term)
first_guard at ts =
    cases_of (behind_word (codes "where") ts) (found (terms.Leaf (leaves.Truth true)) ts)
    (λ after. first_operand at after >>= λ x. truth_by x.said.sort x.said.term >>= λ term. found term x.rest)

-- what is to have one value
unfoldable pub topic_in : Context → List Token → Option (Found Promise)
topic_in at ts =
    first_value at ts >>= λ v. first_key at v.rest >>= λ k. first_guard at k.rest
    >>= λ g. found (kinds.One (record { value = v.value; key = k.value; guard = g.value })) g.rest

-- it speaks of all steps, so it doesn't stand behind `always` or `ever`
abbrev pub first_one : Context → Bool → List Token → Option (Found Promise)
first_one at timed ts = if timed then None else (behind_word (codes "of") ts >>= λ after. topic_in (asking at) after)

-- a unit of facts that nodes show, or of a node that isn't up
unfoldable pub first_shown : Context → List Token → Option (Found Promise)
first_shown at ts =
    cases_of (behind_many ts) (cases_of (behind_word (codes "down") ts) (first_at at ts) (λ after. first_down after)) (λ x. first_nodes at x.value x.rest)

-- a unit by its first words
unfoldable pub first_unit : Context → Bool → List Token → Option (Found Promise)
first_unit at timed ts = cases_of (behind_one_value ts) (first_shown at ts) (λ after. first_one at timed after)
