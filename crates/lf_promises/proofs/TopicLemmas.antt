-- What is read as to have one value is something where it stands.
use Rattle.std.proofs.Common.{◌≡◌, ℕ, Bool, true, false, List, codes, Option, Some, None, refl, sym, ap, ◌∙◌}
use Rattle.std.specs.Prelude.{is_some, nat_le, if◌then◌else◌}
use Rattle.std.proofs.lemmas.Bool.{and_from}
use Rattle.lf_rules.specs.Sorts.{tree_sort, is_of, is_a}
use Rattle.lf_rules.specs.Terms.{Term}
use Rattle.lf_rules.specs.Trees.{parts}
use Rattle.lf_rules.specs.declared.definition.Definition.{Definition}
use Rattle.lf_rules.specs.declared.sort.Scope.TheVariants as scopes
use Rattle.lf_rules.specs.declared.sort.Sort.{Sort}
use Rattle.lf_rules.specs.declared.sort.Sort.TheVariants as sorts
use Rattle.lf_rules.specs.declared.sort.Within.TheVariants as withins
use Rattle.lf_rules.specs.declared.topic.Topic.{Topic}
use Rattle.lf_rule_machine.specs.declared.fact.Fact.{Fact}
use Rattle.lf_grammar.specs.declared.token.Token.{Token}
use Rattle.lf_grammar.specs.Places.{Context}
use Rattle.lf_grammar.specs.Typing.{◌>>=◌}
use Rattle.lf_grammar.specs.Fronts.{behind_word}
use Rattle.lf_grammar.specs.Expressions.{cases_of, first_operand}
use Rattle.lf_grammar.specs.Expressions as expressions
use Rattle.lf_grammar.proofs.Laws.{operand-sorted}
use Rattle.lf_promises.specs.declared.promise.Many.{Many}
use Rattle.lf_promises.specs.declared.promise.Promise.{Promise, fold-roll-Promise}
use Rattle.lf_promises.specs.declared.promise.Promise.TheVariants.{rolls-Nodes, rolls-Down, rolls-At, rolls-One}
use Rattle.lf_promises.specs.declared.promise.Promise.TheVariants as promises
use Rattle.lf_promises.specs.declared.promise.Promise.TheOpen.{Promise-F}
use Rattle.lf_promises.specs.declared.reading.Joint.TheVariants as joints
use Rattle.lf_promises.specs.Fronts.{Found, found, behind_many, behind_one_value, first_node, first_fact}
use Rattle.lf_promises.specs.Units.{first_group, first_nodes, first_down, first_at, first_shown, first_unit, first_one}
use Rattle.lf_promises.specs.Units.{first_value, first_key, first_guard, topic_in, asking, sized, truth_by}
use Rattle.lf_promises.specs.Promises.{Joined, promise_of}
use Rattle.lf_promises.specs.Readings.{IsRead}
use Rattle.lf_promises.specs.Topics.{is_sorted, is_asked, asked_step, asks_sorted}
use Rattle.lf_promises.proofs.PropertyLemmas as properties
use Rattle.lf_promises.proofs.PropertyLemmas.{Gives, given, nothing, onward, by_cases, IsOfParts, whole-All, whole-Any, whole-Always, whole-Ever, kept-whole}

-- ---- what a promise asks, by what it is

module _ (d : Definition) where
  of-parts : IsOfParts (asked_step d)
  of-parts = record { all = λ parts. refl; any = λ parts. refl; always = λ parts. refl; ever = λ parts. refl }

  asked-Nodes : (many : Many) (fact : Fact) (of : Option Term) → asks_sorted d (promises.Nodes many fact of) ≡ true
  asked-Nodes many fact of =
      ap (asks_sorted d) (sym (rolls-Nodes many fact of)) ∙ fold-roll-Promise Bool (asked_step d) (Promise-F.Nodes many fact of)

  asked-Down : (n : ℕ) → asks_sorted d (promises.Down n) ≡ true
  asked-Down n = ap (asks_sorted d) (sym (rolls-Down n)) ∙ fold-roll-Promise Bool (asked_step d) (Promise-F.Down n)

  asked-At : (n : ℕ) (fact : Fact) → asks_sorted d (promises.At n fact) ≡ true
  asked-At n fact = ap (asks_sorted d) (sym (rolls-At n fact)) ∙ fold-roll-Promise Bool (asked_step d) (Promise-F.At n fact)

  pub asked-One : (topic : Topic) → asks_sorted d (promises.One topic) ≡ is_asked d topic
  asked-One topic = ap (asks_sorted d) (sym (rolls-One topic)) ∙ fold-roll-Promise Bool (asked_step d) (Promise-F.One topic)

-- ---- a value, a key and a guard that are read

is-of-same : (o : Option Sort) (sort : Sort) → o ≡ Some sort → is_some o ≡ true
is-of-same o sort is = ap is_some is

-- what isn't too large is what it was
sized-same : (term : Term) → Gives (λ t. t ≡ term) (sized term)
sized-same term = go (nat_le (parts term) 256)
  where
    go : (so : Bool) → Gives (λ t. t ≡ term) (if so then Some term else None)
    go true = given (λ t. t ≡ term) term refl
    go false = nothing (λ t. t ≡ term)

truth-same : (sort : Sort) (term : Term) → Gives (λ t. (t ≡ term) × (sort ≡ sorts.Truth)) (truth_by sort term)
truth-same sorts.Truth term = λ t is. (sized-same term t is, refl)
truth-same sorts.Number term = nothing (λ t. (t ≡ term) × (sorts.Number ≡ sorts.Truth))
truth-same sorts.Nodes term = nothing (λ t. (t ≡ term) × (sorts.Nodes ≡ sorts.Truth))
truth-same (sorts.Word of) term = nothing (λ t. (t ≡ term) × (sorts.Word of ≡ sorts.Truth))

module _ (d : Definition) where
  record IsSorted (x : Found Term) : Type 0 where
    pub sort : is_sorted d x.value ≡ true

  record IsTrue (x : Found Term) : Type 0 where
    pub truth : is_a d scopes.Outcome withins.Nothing sorts.Truth x.value ≡ true

module _ (at : Context) where
  abbrev d : Definition
  d = at.definition

  value-sorted : (ts : List Token) → Gives (IsSorted d) (first_value (asking at) ts)
  unfolding first_value
  value-sorted ts =
      onward (IsSorted d) (first_operand (asking at) ts) (λ x. sized x.said.term >>= λ term. found term x.rest)
      (λ x is. onward (IsSorted d) (sized x.said.term) (λ term. found term x.rest)
      (λ term fit. let same : term ≡ x.said.term = sized-same x.said.term term fit in
      given (IsSorted d) (record { value = term; rest = x.rest })
      (record { sort = ap (is_sorted d) same ∙ is-of-same _ x.said.sort (operand-sorted (asking at) ts x is) })))

  key-sorted : (ts : List Token) → Gives (IsSorted d) (first_key (asking at) ts)
  unfolding first_key
  key-sorted ts =
      by_cases (IsSorted d) (behind_word (codes "per") ts) _ (λ after. first_value (asking at) after) (given (IsSorted d) _ (record { sort = refl }))
      value-sorted

  guard-true : (ts : List Token) → Gives (IsTrue d) (first_guard (asking at) ts)
  unfolding first_guard
  guard-true ts =
      by_cases (IsTrue d) (behind_word (codes "where") ts) _
      (λ after. first_operand (asking at) after >>= λ x. truth_by x.said.sort x.said.term >>= λ term. found term x.rest)
      (given (IsTrue d) _ (record { truth = refl }))
      (λ after. onward (IsTrue d) (first_operand (asking at) after) (λ x. truth_by x.said.sort x.said.term >>= λ term. found term x.rest)
      (λ x is. onward (IsTrue d) (truth_by x.said.sort x.said.term) (λ term. found term x.rest)
      (λ term fit. let same = truth-same x.said.sort x.said.term term fit in
      given (IsTrue d) (record { value = term; rest = x.rest }) (record { truth = of-truth term x same.0 same.1 (operand-sorted (asking at) after x is) }))))
    where
      of-truth : (term : Term) (x : expressions.Found) → term ≡ x.said.term → x.said.sort ≡ sorts.Truth
          → tree_sort d scopes.Outcome withins.Nothing x.said.term ≡ Some x.said.sort → is_a d scopes.Outcome withins.Nothing sorts.Truth term ≡ true
      of-truth term x same truth sorted =
          ap (λ e. is_a d scopes.Outcome withins.Nothing sorts.Truth e) same ∙ ap (λ o. is_of o sorts.Truth) (sorted ∙ ap (λ s. Some s) truth)

  -- ---- a promise that is read

  abbrev IsFine : Found Promise → Type 0
  IsFine = properties.IsFine (asks_sorted d)

  fine : (promise : Promise) (rest : List Token) → asks_sorted d promise ≡ true → Gives IsFine (found promise rest)
  fine = properties.fine (asks_sorted d)

  nodes-fine : (many : Many) (ts : List Token) → Gives IsFine (first_nodes at many ts)
  unfolding first_nodes
  nodes-fine many ts =
      onward IsFine (first_fact d ts) (λ x. first_group at x.rest >>= λ y. found (promises.Nodes many x.value y.value) y.rest)
      (λ x is. onward IsFine (first_group at x.rest) (λ y. found (promises.Nodes many x.value y.value) y.rest)
      (λ y group. fine (promises.Nodes many x.value y.value) y.rest (asked-Nodes d many x.value y.value)))

  down-fine : (ts : List Token) → Gives IsFine (first_down ts)
  unfolding first_down
  down-fine ts =
      onward IsFine (first_node ts) (λ x. found (promises.Down x.value) x.rest) (λ x is. fine (promises.Down x.value) x.rest (asked-Down d x.value))

  at-fine : (ts : List Token) → Gives IsFine (first_at at ts)
  unfolding first_at
  at-fine ts =
      onward IsFine (first_fact d ts) (λ x. behind_word (codes "at") x.rest >>= λ after. first_node after >>= λ y. found (promises.At y.value x.value) y.rest)
      (λ x is. onward IsFine (behind_word (codes "at") x.rest) (λ after. first_node after >>= λ y. found (promises.At y.value x.value) y.rest)
      (λ after behind. onward IsFine (first_node after) (λ y. found (promises.At y.value x.value) y.rest)
      (λ y node. fine (promises.At y.value x.value) y.rest (asked-At d y.value x.value))))

  shown-fine : (ts : List Token) → Gives IsFine (first_shown at ts)
  unfolding first_shown
  shown-fine ts =
      by_cases IsFine (behind_many ts) (cases_of (behind_word (codes "down") ts) (first_at at ts) (λ after. first_down after))
      (λ x. first_nodes at x.value x.rest)
      (by_cases IsFine (behind_word (codes "down") ts) (first_at at ts) (λ after. first_down after) (at-fine ts) down-fine)
      (λ x. nodes-fine x.value x.rest)

  abbrev one_of : Term → Term → Term → Promise
  one_of value key guard = promises.One (record { value = value; key = key; guard = guard })

  topic-fine : (ts : List Token) → Gives IsFine (topic_in (asking at) ts)
  unfolding topic_in
  topic-fine ts =
      onward IsFine (first_value (asking at) ts)
      (λ v. first_key (asking at) v.rest >>= λ k. first_guard (asking at) k.rest >>= λ g. found (one_of v.value k.value g.value) g.rest)
      (λ v is. onward IsFine (first_key (asking at) v.rest)
      (λ k. first_guard (asking at) k.rest >>= λ g. found (one_of v.value k.value g.value) g.rest)
      (λ k key. onward IsFine (first_guard (asking at) k.rest) (λ g. found (one_of v.value k.value g.value) g.rest)
      (λ g guard. let value = value-sorted ts v is in
      let by = key-sorted v.rest k key in
      let so = guard-true k.rest g guard in
      fine (one_of v.value k.value g.value) g.rest
      (asked-One d (record { value = v.value; key = k.value; guard = g.value })
      ∙ and_from (is_sorted d v.value) _ value.sort (and_from (is_sorted d k.value) _ by.sort so.truth)))))

  asked-fine : (timed : Bool) (ts : List Token) → Gives IsFine (first_one at timed ts)
  asked-fine true ts = nothing IsFine
  asked-fine false ts = onward IsFine (behind_word (codes "of") ts) (λ after. topic_in (asking at) after) (λ after is. topic-fine after)

  unit-fine : (timed : Bool) (ts : List Token) → Gives IsFine (first_unit at timed ts)
  unfolding first_unit
  unit-fine timed ts =
      by_cases IsFine (behind_one_value ts) (first_shown at ts) (λ after. first_one at timed after) (shown-fine ts) (λ after. asked-fine timed after)

  kept : properties.IsKept (asks_sorted d)
  kept = kept-whole (asked_step d) (of-parts d)

  pub reads-asked : (ts rest : List Token) (p : Promise) → IsRead at false (Joined joints.Or) ts (found p rest) → asks_sorted d p ≡ true
  reads-asked = properties.reads-fine (asks_sorted d) at kept unit-fine

  pub promise-asked : (ts : List Token) (p : Promise) → promise_of at ts ≡ Some p → asks_sorted d p ≡ true
  promise-asked = properties.promise-fine (asks_sorted d) at kept unit-fine
