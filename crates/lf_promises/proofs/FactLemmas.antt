-- What is read names facts of its definition alone.
use Rattle.std.proofs.Common.{◌≡◌, ℕ, zero, suc, ◌+◌, ◌<◌, Bool, true, false, ◌&&◌, List, [], ◌∷◌, ◌++◌, length, codes, min}
use Rattle.std.proofs.Common.{Option, Some, None, refl, sym, ap, ◌∙◌, arith, inl, inr}
use Rattle.std.specs.Prelude.{◌⊎◌, find, slice_get, if◌then◌else◌}
use Rattle.std.specs.List.{list_all, flat_map, range_with_len}
use Rattle.std.proofs.lemmas.Bool.{and_from, and_parts, cases_Bool, lt-ltb}
use Rattle.std.proofs.lemmas.List.Concat.{flat_map-cons}
use Rattle.std.proofs.lemmas.List.Folds.{list_all-append}
use Rattle.lf_rules.specs.declared.topic.Topic.{Topic}
use Rattle.lf_rules.specs.Terms.{Term}
use Rattle.lf_rules.specs.declared.kind.Kind.{Kind}
use Rattle.lf_rules.specs.declared.kind.Kind.TheVariants as kinds
use Rattle.lf_rules.specs.declared.definition.Variable.{Variable}
use Rattle.lf_rules.specs.Tables.{is_one}
use Rattle.lf_rules.specs.declared.definition.Definition.{Definition}
use Rattle.lf_rule_machine.specs.declared.fact.Told.{Told}
use Rattle.lf_rule_machine.specs.declared.fact.Told.TheVariants as tolds
use Rattle.lf_rule_machine.specs.declared.fact.Fact.{Fact}
use Rattle.lf_naming.specs.Facts.{both, numbers, own_words, if_flag, own_flag, guard_facts, word_facts, flag_facts, facts_of, has_name}
use Rattle.lf_grammar.specs.declared.token.Token.{Token}
use Rattle.lf_grammar.specs.declared.token.Token.TheVariants as tokens
use Rattle.lf_grammar.specs.Places.{Context}
use Rattle.lf_grammar.specs.Typing.{◌>>=◌}
use Rattle.lf_grammar.specs.Fronts.{behind_word}
use Rattle.lf_grammar.specs.Expressions.{cases_of}
use Rattle.lf_promises.specs.declared.reading.Joint.TheVariants as joints
use Rattle.lf_promises.specs.declared.promise.Many.{Many}
use Rattle.lf_promises.specs.declared.promise.Promise.{Promise, fold-roll-Promise}
use Rattle.lf_promises.specs.declared.promise.Promise.TheVariants.{rolls-All, rolls-Any, rolls-Always, rolls-Ever, rolls-Nodes, rolls-Down, rolls-At, rolls-One}
use Rattle.lf_promises.specs.declared.promise.Promise.TheVariants as promises
use Rattle.lf_promises.specs.declared.promise.Promise.TheOpen.{Promise-F}
use Rattle.lf_promises.specs.Facts.{is_number, has_word, is_flag_kind, is_flag, has_told, facts_step, names_facts}
use Rattle.lf_promises.specs.Fronts.{Found, found, behind_many, behind_one_value, first_node, fact_of, first_named, opposite, first_fact}
use Rattle.lf_promises.specs.Units.{first_group, first_nodes, first_down, first_at, first_shown, first_unit, first_one}
use Rattle.lf_promises.specs.Units.{first_value, first_key, first_guard, topic_in, asking}
use Rattle.lf_promises.specs.Promises.{Joined, promise_of}
use Rattle.lf_promises.specs.Readings.{IsRead}
use Rattle.lf_promises.proofs.PropertyLemmas as properties
use Rattle.lf_promises.proofs.PropertyLemmas.{Gives, given, nothing, onward, by_cases, IsOfParts, whole-All, whole-Any, whole-Always, whole-Ever, kept-whole}

-- ---- the facts that a promise names, by what it is

module _ (d : Definition) where
  of-parts : IsOfParts (facts_step d)
  of-parts = record { all = λ parts. refl; any = λ parts. refl; always = λ parts. refl; ever = λ parts. refl }

  pub facts-All : (parts : List Promise) → names_facts d (promises.All parts) ≡ list_all (names_facts d) parts
  facts-All = whole-All (facts_step d) of-parts

  pub facts-Any : (parts : List Promise) → names_facts d (promises.Any parts) ≡ list_all (names_facts d) parts
  facts-Any = whole-Any (facts_step d) of-parts

  pub facts-Always : (parts : List Promise) → names_facts d (promises.Always parts) ≡ list_all (names_facts d) parts
  facts-Always = whole-Always (facts_step d) of-parts

  pub facts-Ever : (parts : List Promise) → names_facts d (promises.Ever parts) ≡ list_all (names_facts d) parts
  facts-Ever = whole-Ever (facts_step d) of-parts

  pub facts-Nodes : (many : Many) (fact : Fact) (of : Option Term) → names_facts d (promises.Nodes many fact of) ≡ has_told d fact.told
  facts-Nodes many fact of =
      ap (names_facts d) (sym (rolls-Nodes many fact of)) ∙ fold-roll-Promise Bool (facts_step d) (Promise-F.Nodes many fact of)

  pub facts-Down : (n : ℕ) → names_facts d (promises.Down n) ≡ true
  facts-Down n = ap (names_facts d) (sym (rolls-Down n)) ∙ fold-roll-Promise Bool (facts_step d) (Promise-F.Down n)

  pub facts-At : (n : ℕ) (fact : Fact) → names_facts d (promises.At n fact) ≡ has_told d fact.told
  facts-At n fact = ap (names_facts d) (sym (rolls-At n fact)) ∙ fold-roll-Promise Bool (facts_step d) (Promise-F.At n fact)

  pub facts-One : (topic : Topic) → names_facts d (promises.One topic) ≡ true
  facts-One topic = ap (names_facts d) (sym (rolls-One topic)) ∙ fold-roll-Promise Bool (facts_step d) (Promise-F.One topic)

  -- a promise with parts
  pub facts-parts : (p : Promise) (parts : List Promise)
      → (p ≡ promises.All parts) ⊎ ((p ≡ promises.Any parts) ⊎ ((p ≡ promises.Always parts) ⊎ (p ≡ promises.Ever parts)))
      → names_facts d p ≡ list_all (names_facts d) parts
  facts-parts p parts (inl is) = ap (names_facts d) is ∙ facts-All parts
  facts-parts p parts (inr (inl is)) = ap (names_facts d) is ∙ facts-Any parts
  facts-parts p parts (inr (inr (inl is))) = ap (names_facts d) is ∙ facts-Always parts
  facts-parts p parts (inr (inr (inr is))) = ap (names_facts d) is ∙ facts-Ever parts

-- ---- a definition's facts are there

flat-all : (q : Fact → Bool) (f : ℕ → List Fact) (n a : ℕ) → ((k : ℕ) → k < a + n → list_all q (f k) ≡ true)
    → list_all q (flat_map f (range_with_len a n)) ≡ true
flat-all q f zero a h = refl
flat-all q f (suc n) a h =
    ap (list_all q) (flat_map-cons f a (range_with_len (a + 1) n)) ∙ list_all-append q (f a) (flat_map f (range_with_len (a + 1) n))
    ∙ and_from (list_all q (f a)) (list_all q (flat_map f (range_with_len (a + 1) n))) (h a (omega arith))
    (flat-all q f n (a + 1) (λ k below. h k (omega (arith, below))))

append-all : (q : Fact → Bool) (xs ys : List Fact) → list_all q xs ≡ true → list_all q ys ≡ true → list_all q (xs ++ ys) ≡ true
append-all q xs ys h k = list_all-append q xs ys ∙ and_from (list_all q xs) (list_all q ys) h k

-- the one that is found
found-passes : (q test : Fact → Bool) (xs : List Fact) → list_all q xs ≡ true → (x : Fact) → find test xs ≡ Some x → q x ≡ true
found-passes q test [] all x is = absurd cc
found-passes q test (y ∷ ys) all x is =
    let each = and_parts (q y) (list_all q ys) all in
    elim (cases_Bool (test y)) [
      | inl holds ↦
          let here : find test (y ∷ ys) ≡ Some y = rw holds refl in
          let both : Some y ≡ Some x = sym here ∙ is in
          let same : y ≡ x = cc in
          ap q (sym same) ∙ each.0
      | inr fails ↦
          let there : find test (y ∷ ys) ≡ find test ys = rw fails refl in
          found-passes q test ys each.1 x (sym there ∙ is)
    ]

module _ (d : Definition) where
  -- what the fact is about is there
  abbrev is_there : Fact → Bool
  is_there fact = has_told d fact.told

  both-there : (told : Told) → has_told d told ≡ true → list_all is_there (both told) ≡ true
  both-there told h = and_from (has_told d told) (has_told d told && true) h (and_from (has_told d told) true h refl)

  numbered : (k count : ℕ) → k < 0 + min count 256 → is_number k count ≡ true
  numbered k count below = lt-ltb k (min count 256) (omega (arith, below))

  guards-there : list_all is_there (guard_facts d) ≡ true
  guards-there =
      flat-all is_there (λ guard. both (tolds.Named guard)) (min (length d.facts) 256) 0
      (λ k below. both-there (tolds.Named k) (numbered k (length d.facts) below))

  -- facts of a variable that may be a table
  if-one : (single : Bool) (facts : List Fact) → (single ≡ true → list_all is_there facts ≡ true) → list_all is_there (if single then facts else []) ≡ true
  if-one true facts h = h refl
  if-one false facts h = refl

  words-there : (v : ℕ) → is_number v (length d.variables) ≡ true → (o : Option Variable) → o ≡ slice_get d.variables v
      → list_all is_there (own_words v o) ≡ true
  words-there v at None is = refl
  words-there v at (Some x) is =
      if-one (is_one x.cells) (flat_map (λ word. both (tolds.Word v word)) (numbers (length x.words)))
      (λ single. flat-all is_there (λ word. both (tolds.Word v word)) (min (length x.words) 256) 0
      (λ k below. both-there (tolds.Word v k)
      (and_from (is_number v (length d.variables)) (has_word (slice_get d.variables v) k) at
      (ap (λ o. has_word o k) (sym is)
      ∙ and_from (is_one x.cells) (is_number k (length x.words)) single (numbered k (length x.words) below)))))

  flag-there : (v : ℕ) → is_number v (length d.variables) ≡ true → (k : Kind) → is_flag (slice_get d.variables v) ≡ is_flag_kind k
      → list_all is_there (if_flag v k) ≡ true
  flag-there v at kinds.Flag is = both-there (tolds.Flag v) (and_from (is_number v (length d.variables)) (is_flag (slice_get d.variables v)) at is)
  flag-there v at kinds.Nodes is = refl
  flag-there v at (kinds.UpTo most) is = refl
  flag-there v at (kinds.Word of words) is = refl

  flags-there : (v : ℕ) → is_number v (length d.variables) ≡ true → (o : Option Variable) → o ≡ slice_get d.variables v
      → list_all is_there (own_flag v o) ≡ true
  flags-there v at None is = refl
  flags-there v at (Some x) is =
      if-one (is_one x.cells) (if_flag v x.kind)
      (λ single. flag-there v at x.kind (ap is_flag (sym is) ∙ ap (λ b. b && is_flag_kind x.kind) single))

  -- all of its facts
  pub all-there : list_all is_there (facts_of d) ≡ true
  all-there =
      append-all is_there (guard_facts d) (word_facts d ++ (flag_facts d ++ (both tolds.Clamped ++ both tolds.Replaced))) guards-there
      (append-all is_there (word_facts d) (flag_facts d ++ (both tolds.Clamped ++ both tolds.Replaced))
      (flat-all is_there (λ v. own_words v (slice_get d.variables v)) (min (length d.variables) 256) 0
      (λ k below. words-there k (numbered k (length d.variables) below) (slice_get d.variables k) refl))
      (append-all is_there (flag_facts d) (both tolds.Clamped ++ both tolds.Replaced)
      (flat-all is_there (λ v. own_flag v (slice_get d.variables v)) (min (length d.variables) 256) 0
      (λ k below. flags-there k (numbered k (length d.variables) below) (slice_get d.variables k) refl))
      refl))

  pub named-there : (word : List ℕ) (fact : Fact) → fact_of d word ≡ Some fact → has_told d fact.told ≡ true
  unfolding fact_of
  named-there word fact is = found-passes is_there (has_name d word) (facts_of d) all-there fact is

module _ (at : Context) where
  -- a fact that is read
  record IsOwn (x : Found Fact) : Type 0 where
    pub there : has_told at.definition x.value.told ≡ true

  abbrev IsFine : Found Promise → Type 0
  IsFine = properties.IsFine (names_facts at.definition)

  fine : (promise : Promise) (rest : List Token) → names_facts at.definition promise ≡ true → Gives IsFine (found promise rest)
  fine = properties.fine (names_facts at.definition)

  named-own : (ts : List Token) → Gives IsOwn (first_named at.definition ts)
  unfolding first_named
  named-own [] = nothing IsOwn
  named-own (tokens.Number n ∷ rest) = nothing IsOwn
  named-own (tokens.Sign sign ∷ rest) = nothing IsOwn
  named-own (tokens.Word word ∷ rest) =
      onward IsOwn (fact_of at.definition word) (λ fact. found fact rest)
      (λ fact is. given IsOwn (record { value = fact; rest = rest }) (record { there = named-there at.definition word fact is }))

  fact-own : (ts : List Token) → Gives IsOwn (first_fact at.definition ts)
  unfolding first_fact
  fact-own ts =
      by_cases IsOwn (behind_word (codes "not") ts) (first_named at.definition ts)
      (λ after. first_named at.definition after >>= λ x. found (opposite x.value) x.rest) (named-own ts)
      (λ after. onward IsOwn (first_named at.definition after) (λ x. found (opposite x.value) x.rest)
      (λ x is. let own = named-own after x is in
      given IsOwn (record { value = opposite x.value; rest = x.rest }) (record { there = own.there })))

  nodes-fine : (many : Many) (ts : List Token) → Gives IsFine (first_nodes at many ts)
  unfolding first_nodes
  nodes-fine many ts =
      onward IsFine (first_fact at.definition ts) (λ x. first_group at x.rest >>= λ y. found (promises.Nodes many x.value y.value) y.rest)
      (λ x is. onward IsFine (first_group at x.rest) (λ y. found (promises.Nodes many x.value y.value) y.rest)
      (λ y group. let own = fact-own ts x is in
      fine (promises.Nodes many x.value y.value) y.rest (facts-Nodes at.definition many x.value y.value ∙ own.there)))

  down-fine : (ts : List Token) → Gives IsFine (first_down ts)
  unfolding first_down
  down-fine ts =
      onward IsFine (first_node ts) (λ x. found (promises.Down x.value) x.rest)
      (λ x is. fine (promises.Down x.value) x.rest (facts-Down at.definition x.value))

  at-fine : (ts : List Token) → Gives IsFine (first_at at ts)
  unfolding first_at
  at-fine ts =
      onward IsFine (first_fact at.definition ts)
      (λ x. behind_word (codes "at") x.rest >>= λ after. first_node after >>= λ y. found (promises.At y.value x.value) y.rest)
      (λ x is. onward IsFine (behind_word (codes "at") x.rest) (λ after. first_node after >>= λ y. found (promises.At y.value x.value) y.rest)
      (λ after behind. onward IsFine (first_node after) (λ y. found (promises.At y.value x.value) y.rest)
      (λ y node. let own = fact-own ts x is in
      fine (promises.At y.value x.value) y.rest (facts-At at.definition y.value x.value ∙ own.there))))

  shown-fine : (ts : List Token) → Gives IsFine (first_shown at ts)
  unfolding first_shown
  shown-fine ts =
      by_cases IsFine (behind_many ts) (cases_of (behind_word (codes "down") ts) (first_at at ts) (λ after. first_down after))
      (λ x. first_nodes at x.value x.rest)
      (by_cases IsFine (behind_word (codes "down") ts) (first_at at ts) (λ after. first_down after) (at-fine ts) down-fine)
      (λ x. nodes-fine x.value x.rest)

  abbrev one_of : Term → Term → Term → Promise
  one_of value key guard = promises.One (record { value = value; key = key; guard = guard })

  -- a topic's facts are those of its expressions
  topic-fine : (inner : Context) (ts : List Token) → Gives IsFine (topic_in inner ts)
  unfolding topic_in
  topic-fine inner ts =
      onward IsFine (first_value inner ts) (λ v. first_key inner v.rest >>= λ k. first_guard inner k.rest >>= λ g. found (one_of v.value k.value g.value) g.rest)
      (λ v is. onward IsFine (first_key inner v.rest) (λ k. first_guard inner k.rest >>= λ g. found (one_of v.value k.value g.value) g.rest)
      (λ k key. onward IsFine (first_guard inner k.rest) (λ g. found (one_of v.value k.value g.value) g.rest)
      (λ g guard. fine (one_of v.value k.value g.value) g.rest (facts-One at.definition (record { value = v.value; key = k.value; guard = g.value })))))

  asked-fine : (timed : Bool) (ts : List Token) → Gives IsFine (first_one at timed ts)
  asked-fine true ts = nothing IsFine
  asked-fine false ts =
      onward IsFine (behind_word (codes "of") ts) (λ after. topic_in (asking at) after) (λ after is. topic-fine (asking at) after)

  unit-fine : (timed : Bool) (ts : List Token) → Gives IsFine (first_unit at timed ts)
  unfolding first_unit
  unit-fine timed ts =
      by_cases IsFine (behind_one_value ts) (first_shown at ts) (λ after. first_one at timed after) (shown-fine ts) (λ after. asked-fine timed after)

  kept : properties.IsKept (names_facts at.definition)
  kept = kept-whole (facts_step at.definition) (of-parts at.definition)

  pub reads-fine : (ts rest : List Token) (p : Promise) → IsRead at false (Joined joints.Or) ts (found p rest) → names_facts at.definition p ≡ true
  reads-fine = properties.reads-fine (names_facts at.definition) at kept unit-fine

  pub promise-fine : (ts : List Token) (p : Promise) → promise_of at ts ≡ Some p → names_facts at.definition p ≡ true
  promise-fine = properties.promise-fine (names_facts at.definition) at kept unit-fine
