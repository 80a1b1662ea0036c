-- What holds in a definition still holds where the definition has grown.
use Rattle.std.proofs.Common.{◌≡◌, ℕ, ◌+◌, ◌≤◌, Bool, true, false, ◌&&◌, ◌||◌, ◌==◌, List, [], ◌∷◌, ◌++◌, length, refl, sym, ap, ◌∙◌, arith}
use Rattle.std.specs.Prelude.{Option, Some, None, nat_le, slice_get}
use Rattle.std.specs.List.{list_all, list_any}
use Rattle.std.proofs.lemmas.Bool.{and_from, and_parts, lt-ltb, ltb-true}
use Rattle.lf_rules.specs.Forms.{is_from, has_words, is_kind, is_word_of, is_variable, are_variables, is_form, is_value, is_given, is_constant, is_let, is_fact}
use Rattle.lf_rules.specs.Forms.{is_assigned, is_whole, within_of, is_set, is_assignment, are_fields, are_sent, same_truth, is_send, is_rule_in, is_event}
use Rattle.lf_rules.specs.Forms.{scope_of, sends_of, is_chain, is_shown}
use Rattle.lf_rules.specs.Kinds.{sort_of}
use Rattle.lf_rules.specs.Sorts.{same_sort, is_of, where_so, names_constants, names_state, names_lets, names_facts, is_rule, constant_sort, let_sort, fact_sort}
use Rattle.lf_rules.specs.Sorts.{has_bodies, variable_sort, cell_sort, field_sort, word_sort, heard_sort, leaf_sort, row_sort, unary_sort, made, binary_sort}
use Rattle.lf_rules.specs.Sorts.{at_sort, comes_of, over_sort, tree_sort, is_a}
use Rattle.lf_rules.specs.Tables.{is_each_node, is_cells, is_table}
use Rattle.lf_rules.specs.Terms.{Term}
use Rattle.lf_rules.specs.Terms as terms
use Rattle.lf_rules.specs.Trees.{has_it}
use Rattle.lf_rules.specs.declared.expr.Leaf.{Leaf}
use Rattle.lf_rules.specs.declared.expr.Leaf.TheVariants as leaves
use Rattle.lf_rules.specs.declared.expr.Binary.{Binary}
use Rattle.lf_rules.specs.declared.expr.Binary.TheVariants as twos
use Rattle.lf_rules.specs.declared.expr.Row.{Row}
use Rattle.lf_rules.specs.declared.expr.Row.TheVariants as rows
use Rattle.lf_rules.specs.declared.kind.Kind.{Kind}
use Rattle.lf_rules.specs.declared.kind.Kind.TheVariants as kinds
use Rattle.lf_rules.specs.declared.rule.Assignment.{Assignment}
use Rattle.lf_rules.specs.declared.rule.Chain.{Chain}
use Rattle.lf_rules.specs.declared.rule.Event.{Event}
use Rattle.lf_rules.specs.declared.rule.Event.TheVariants as events
use Rattle.lf_rules.specs.declared.rule.Rule.{Rule}
use Rattle.lf_rules.specs.declared.rule.Send.{Send}
use Rattle.lf_rules.specs.declared.rule.Target.{Target}
use Rattle.lf_rules.specs.declared.rule.Target.TheVariants as targets
use Rattle.lf_rules.specs.declared.sort.Scope.{Scope}
use Rattle.lf_rules.specs.declared.sort.Scope.TheVariants as scopes
use Rattle.lf_rules.specs.declared.sort.Sort.{Sort}
use Rattle.lf_rules.specs.declared.sort.Sort.TheVariants as sorts
use Rattle.lf_rules.specs.declared.sort.Within.{Within}
use Rattle.lf_rules.specs.declared.sort.Within.TheVariants as withins
use Rattle.lf_rules.specs.declared.table.Table.{Table}
use Rattle.lf_rules.specs.declared.definition.Constant.{Constant}
use Rattle.lf_rules.specs.declared.definition.Definition.{Definition}
use Rattle.lf_rules.specs.declared.definition.Given.{Given}
use Rattle.lf_rules.specs.declared.definition.Given.TheVariants as givens
use Rattle.lf_rules.specs.declared.definition.Guard.{Guard}
use Rattle.lf_rules.specs.declared.definition.Named.{Named}
use Rattle.lf_rules.specs.declared.definition.NoteForm.{NoteForm}
use Rattle.lf_rules.specs.declared.definition.Value.{Value}
use Rattle.lf_rules.specs.declared.definition.Value.TheVariants as values
use Rattle.lf_rules.specs.declared.definition.Variable.{Variable}
use Rattle.std.proofs.lemmas.List.Folds.{list_all-append}

-- what has a number in a definition has it in another one too
pub record Grows (d e : Definition) : Type 0 where
  pub variables : (i : ℕ) (x : Variable) → slice_get d.variables i ≡ Some x → slice_get e.variables i ≡ Some x
  pub notes : (i : ℕ) (x : NoteForm) → slice_get d.notes i ≡ Some x → slice_get e.notes i ≡ Some x
  pub given : (i : ℕ) (x : Constant) → slice_get d.given i ≡ Some x → slice_get e.given i ≡ Some x
  pub lets : (i : ℕ) (x : Named) → slice_get d.lets i ≡ Some x → slice_get e.lets i ≡ Some x
  pub facts : (i : ℕ) (x : Guard) → slice_get d.facts i ≡ Some x → slice_get e.facts i ≡ Some x
  pub tables : (t : Table) → is_table d t ≡ true → is_table e t ≡ true
  pub more_variables : length d.variables ≤ length e.variables
  pub more_notes : length d.notes ≤ length e.notes

-- ---- what is found stays

stays : {X : Type 0} (f : Option X → Option Sort) → f None ≡ None → (o p : Option X) → ((x : X) → o ≡ Some x → p ≡ Some x) → (s : Sort)
    → f o ≡ Some s → f p ≡ Some s
stays f none None p stay s h = let wrong : None ≡ Some s = sym none ∙ h in absurd (cc wrong)
stays f none (Some x) p stay s h = ap f (stay x refl) ∙ h

pub passes : {X : Type 0} (f : Option X → Bool) → f None ≡ false → (o p : Option X) → ((x : X) → o ≡ Some x → p ≡ Some x) → f o ≡ true → f p ≡ true
passes f none None p stay h = let wrong : false ≡ true = sym none ∙ h in absurd (cc wrong)
passes f none (Some x) p stay h = ap f (stay x refl) ∙ h

pub both-stay : (a b c d : Bool) → (a ≡ true → c ≡ true) → (b ≡ true → d ≡ true) → (a && b) ≡ true → (c && d) ≡ true
both-stay a b c d first second h = let parts = and_parts a b h in and_from c d (first parts.0) (second parts.1)

pub all-stay : {X : Type 0} (p q : X → Bool) → ((x : X) → p x ≡ true → q x ≡ true) → (xs : List X) → list_all p xs ≡ true → list_all q xs ≡ true
all-stay p q stay [] h = refl
all-stay p q stay (x ∷ xs) h = both-stay (p x) (list_all p xs) (q x) (list_all q xs) (stay x) (all-stay p q stay xs) h

-- one more that passes
pub all-push : {X : Type 0} (q : X → Bool) (xs : List X) (x : X) → list_all q xs ≡ true → q x ≡ true → list_all q (xs ++ x ∷ []) ≡ true
all-push q xs x all is = list_all-append q xs (x ∷ []) ∙ and_from (list_all q xs) (list_all q (x ∷ [])) all (and_from (q x) true is refl)

where-none : (b : Bool) → where_so b None ≡ None
where-none true = refl
where-none false = refl

so-none : (b : Bool) (o : Option Sort) → where_so (b && false) o ≡ None
so-none true o = refl
so-none false o = refl

left-none : (op : Binary) (b : Option Sort) → binary_sort op None b ≡ None
left-none twos.Equal None = refl
left-none twos.Equal (Some x) = refl
left-none other b = refl

right-none : (op : Binary) (a : Option Sort) → binary_sort op a None ≡ None
right-none twos.Equal a = refl
right-none twos.And a = so-none (is_of a sorts.Truth) (Some (made twos.And))
right-none twos.Or a = so-none (is_of a sorts.Truth) (Some (made twos.Or))
right-none twos.In a = so-none (is_of a sorts.Number) (Some (made twos.In))
right-none twos.Union a = so-none (is_of a sorts.Nodes) (Some (made twos.Union))
right-none twos.Without a = so-none (is_of a sorts.Nodes) (Some (made twos.Without))
right-none twos.Majority a = so-none (is_of a sorts.Nodes) (Some (made twos.Majority))
right-none other a = so-none (is_of a sorts.Number) (Some (made other))

-- what is there where something is so
so-stays : (q r : Bool) (o p : Option Sort) (s : Sort) → (q ≡ true → r ≡ true) → (o ≡ Some s → p ≡ Some s) → where_so q o ≡ Some s → where_so r p ≡ Some s
so-stays true r o p s so stay h = ap (λ b. where_so b p) (so refl) ∙ stay h
so-stays false r o p s so stay h = absurd cc

module _ {d e : Definition} (g : Grows d e) where
  heard-stays : (scope : Scope) (i : ℕ) (s : Sort) → heard_sort d scope i ≡ Some s → heard_sort e scope i ≡ Some s
  heard-stays (scopes.Note form) i s h = stays (λ o. field_sort o i) refl (slice_get d.notes form) (slice_get e.notes form) (g.notes form) s h
  heard-stays other i s h = h

  leaf-stays : (scope : Scope) (within : Within) (x : Leaf) (s : Sort) → leaf_sort d scope within x ≡ Some s → leaf_sort e scope within x ≡ Some s
  leaf-stays scope within (leaves.Word of word) s h =
      stays (λ o. word_sort o of word) refl (slice_get d.variables of) (slice_get e.variables of) (g.variables of) s h
  leaf-stays scope within (leaves.Given i) s h =
      stays (λ o. where_so (names_constants scope) (constant_sort o)) (where-none (names_constants scope)) (slice_get d.given i) (slice_get e.given i)
      (g.given i) s h
  leaf-stays scope within (leaves.Field i) s h = heard-stays scope i s h
  leaf-stays scope within (leaves.Variable i) s h =
      stays (λ o. where_so (names_state scope) (variable_sort o)) (where-none (names_state scope)) (slice_get d.variables i) (slice_get e.variables i)
      (g.variables i) s h
  leaf-stays scope within (leaves.Let i) s h =
      stays (λ o. where_so (names_lets scope) (let_sort o)) (where-none (names_lets scope)) (slice_get d.lets i) (slice_get e.lets i) (g.lets i) s h
  leaf-stays scope within (leaves.Fact i) s h =
      stays (λ o. where_so (names_facts scope) (fact_sort o)) (where-none (names_facts scope)) (slice_get d.facts i) (slice_get e.facts i) (g.facts i) s h
  leaf-stays scope within other s h = h

  row-stays : (scope : Scope) (x : Row) (s : Sort) → row_sort d scope x ≡ Some s → row_sort e scope x ≡ Some s
  row-stays scope (rows.Table t) s h =
      so-stays (names_state scope && is_table d t) (names_state scope && is_table e t) (cell_sort (slice_get d.variables t.of))
      (cell_sort (slice_get e.variables t.of)) s
      (both-stay (names_state scope) (is_table d t) (names_state scope) (is_table e t) (λ a. a) (g.tables t))
      (stays cell_sort refl (slice_get d.variables t.of) (slice_get e.variables t.of) (g.variables t.of) s) h
  row-stays scope (rows.Given i) s h =
      stays (λ o. where_so (names_state scope) (constant_sort o)) (where-none (names_state scope)) (slice_get d.given i) (slice_get e.given i) (g.given i) s h

  -- an expression keeps its sort
  sort-stays : (scope : Scope) (within : Within) (t : Term) (s : Sort) → tree_sort d scope within t ≡ Some s → tree_sort e scope within t ≡ Some s
  sort-stays scope within (terms.Leaf x) s h = leaf-stays scope within x s h
  sort-stays scope within (terms.Unary op a) s h =
      stays (unary_sort op) refl (tree_sort d scope within a) (tree_sort e scope within a) (λ x is. sort-stays scope within a x is) s h
  sort-stays scope within (terms.Binary op a b) s h =
      stays (λ o. binary_sort op (tree_sort e scope within a) o) (right-none op (tree_sort e scope within a)) (tree_sort d scope within b)
      (tree_sort e scope within b) (λ x is. sort-stays scope within b x is) s
      (stays (λ o. binary_sort op o (tree_sort d scope within b)) (left-none op (tree_sort d scope within b)) (tree_sort d scope within a)
      (tree_sort e scope within a) (λ x is. sort-stays scope within a x is) s h)
  sort-stays scope within (terms.At row a) s h =
      stays (λ o. at_sort (row_sort e scope row) o) refl (tree_sort d scope within a) (tree_sort e scope within a) (λ x is. sort-stays scope within a x is) s
      (stays (λ o. at_sort o (tree_sort d scope within a)) (where-none (is_of (tree_sort d scope within a) sorts.Number)) (row_sort d scope row)
      (row_sort e scope row) (λ x is. row-stays scope row x is) s h)
  sort-stays scope within (terms.Over op a b) s h =
      so-stays (names_state scope && has_bodies within) (names_state scope && has_bodies within)
      (over_sort op (tree_sort d scope within a) (tree_sort d scope withins.Body b))
      (over_sort op (tree_sort e scope within a) (tree_sort e scope withins.Body b)) s
      (λ so. so)
      (λ inner. stays (λ o. over_sort op (tree_sort e scope within a) o)
      (so-none (is_of (tree_sort e scope within a) sorts.Nodes) (Some (comes_of op))) (tree_sort d scope withins.Body b) (tree_sort e scope withins.Body b)
      (λ x is. sort-stays scope withins.Body b x is) s
      (stays (λ o. over_sort op o (tree_sort d scope withins.Body b)) refl (tree_sort d scope within a) (tree_sort e scope within a)
      (λ x is. sort-stays scope within a x is) s inner)) h

  pub is_a-stays : (scope : Scope) (within : Within) (sort : Sort) (t : Term) → is_a d scope within sort t ≡ true → is_a e scope within sort t ≡ true
  is_a-stays scope within sort t h =
      passes (λ o. is_of o sort) refl (tree_sort d scope within t) (tree_sort e scope within t) (λ x is. sort-stays scope within t x is) h

  -- ---- and so does all that a definition holds

  kind-stays : (k : Kind) → is_kind d k ≡ true → is_kind e k ≡ true
  kind-stays kinds.Flag h = refl
  kind-stays kinds.Nodes h = refl
  kind-stays (kinds.UpTo most) h = h
  kind-stays (kinds.Word of words) h =
      both-stay (is_from 2 16 words) (has_words (slice_get d.variables of) words) (is_from 2 16 words) (has_words (slice_get e.variables of) words) (λ a. a)
      (λ a. passes (λ o. has_words o words) refl (slice_get d.variables of) (slice_get e.variables of) (g.variables of) a) h

  variable-stays : (i : ℕ) (x : Variable) → is_variable d i x ≡ true → is_variable e i x ≡ true
  variable-stays i x h =
      let own = is_cells x.cells && (length x.words == 0 || is_word_of i x.kind) in
      both-stay (is_kind d x.kind) own (is_kind e x.kind) own (kind-stays x.kind) (λ a. a) h

  pub variables-stay : (i : ℕ) (xs : List Variable) → are_variables d i xs ≡ true → are_variables e i xs ≡ true
  variables-stay i [] h = refl
  variables-stay i (x ∷ xs) h =
      both-stay (is_variable d i x) (are_variables d (i + 1) xs) (is_variable e i x) (are_variables e (i + 1) xs) (variable-stays i x)
      (variables-stay (i + 1) xs) h

  pub form-stays : (x : NoteForm) → is_form d x ≡ true → is_form e x ≡ true
  form-stays x h =
      both-stay (nat_le (length x.fields) 7) (list_all (is_kind d) x.fields) (nat_le (length x.fields) 7) (list_all (is_kind e) x.fields) (λ a. a)
      (all-stay (is_kind d) (is_kind e) kind-stays x.fields) h

  value-stays : (sort : Sort) (v : Value) → is_value d sort v ≡ true → is_value e sort v ≡ true
  value-stays sort (values.Number n) h = h
  value-stays sort (values.Truth b) h = h
  value-stays sort (values.Nodes t) h =
      both-stay (same_sort sort sorts.Nodes) (is_a d scopes.Given withins.Nothing sorts.Nodes t) (same_sort sort sorts.Nodes)
      (is_a e scopes.Given withins.Nothing sorts.Nodes t) (λ a. a) (is_a-stays scopes.Given withins.Nothing sorts.Nodes t) h

  given-stays : (sort : Sort) (v : Given) → is_given d sort v ≡ true → is_given e sort v ≡ true
  given-stays sort (givens.One v) h = value-stays sort v h
  given-stays sort (givens.Each vs) h =
      both-stay (is_from 1 8 (length vs)) (list_all (is_value d sort) vs) (is_from 1 8 (length vs)) (list_all (is_value e sort) vs) (λ a. a)
      (all-stay (is_value d sort) (is_value e sort) (value-stays sort) vs) h

  pub constant-stays : (x : Constant) → is_constant d x ≡ true → is_constant e x ≡ true
  constant-stays x h = given-stays x.sort x.value h

  pub let-stays : (x : Named) → is_let d x ≡ true → is_let e x ≡ true
  let-stays x h = is_a-stays scopes.Let withins.Nothing x.sort x.value h

  pub fact-stays : (x : Guard) → is_fact d x ≡ true → is_fact e x ≡ true
  fact-stays x h = is_a-stays scopes.Fact withins.Nothing sorts.Truth x.value h

  assigned-stays : (scope : Scope) (within : Within) (o p : Option Variable) (t : Term) → ((x : Variable) → o ≡ Some x → p ≡ Some x)
      → is_assigned d scope within o t ≡ true → is_assigned e scope within p t ≡ true
  assigned-stays scope within None p t stay h = absurd cc
  assigned-stays scope within (Some x) p t stay h =
      ap (λ q. is_assigned e scope within q t) (stay x refl) ∙ is_a-stays scope within (sort_of x.kind) t h

  set-stays : (scope : Scope) (x : Target) (t : Term) → is_set d scope x t ≡ true → is_set e scope x t ≡ true
  set-stays scope (targets.Variable i) t h =
      both-stay (is_whole (slice_get d.variables i)) (is_assigned d scope withins.Nothing (slice_get d.variables i) t)
      (is_whole (slice_get e.variables i)) (is_assigned e scope withins.Nothing (slice_get e.variables i) t)
      (passes is_whole refl (slice_get d.variables i) (slice_get e.variables i) (g.variables i))
      (assigned-stays scope withins.Nothing (slice_get d.variables i) (slice_get e.variables i) t (g.variables i)) h
  set-stays scope (targets.Cell table place) t h =
      let inside = within_of table.cells in
      both-stay (is_table d table)
      (is_a d scope withins.Nothing sorts.Number place && is_assigned d scope inside (slice_get d.variables table.of) t) (is_table e table)
      (is_a e scope withins.Nothing sorts.Number place && is_assigned e scope inside (slice_get e.variables table.of) t) (g.tables table)
      (both-stay (is_a d scope withins.Nothing sorts.Number place) (is_assigned d scope inside (slice_get d.variables table.of) t)
      (is_a e scope withins.Nothing sorts.Number place) (is_assigned e scope inside (slice_get e.variables table.of) t)
      (is_a-stays scope withins.Nothing sorts.Number place)
      (assigned-stays scope inside (slice_get d.variables table.of) (slice_get e.variables table.of) t (g.variables table.of))) h
  set-stays scope (targets.Cells table places) t h =
      let old = is_a d scope withins.Nothing sorts.Nodes places && is_assigned d scope withins.Receiver (slice_get d.variables table.of) t in
      let new = is_a e scope withins.Nothing sorts.Nodes places && is_assigned e scope withins.Receiver (slice_get e.variables table.of) t in
      both-stay (is_table d table) (is_each_node table.cells && old) (is_table e table) (is_each_node table.cells && new) (g.tables table)
      (both-stay (is_each_node table.cells) old (is_each_node table.cells) new (λ a. a)
      (both-stay (is_a d scope withins.Nothing sorts.Nodes places) (is_assigned d scope withins.Receiver (slice_get d.variables table.of) t)
      (is_a e scope withins.Nothing sorts.Nodes places) (is_assigned e scope withins.Receiver (slice_get e.variables table.of) t)
      (is_a-stays scope withins.Nothing sorts.Nodes places)
      (assigned-stays scope withins.Receiver (slice_get d.variables table.of) (slice_get e.variables table.of) t (g.variables table.of)))) h

  assignment-stays : (scope : Scope) (x : Assignment) → is_assignment d scope x ≡ true → is_assignment e scope x ≡ true
  assignment-stays scope x h = set-stays scope x.target x.value h

  fields-stay : (scope : Scope) (ks : List Kind) (ts : List Term) → are_fields d scope ks ts ≡ true → are_fields e scope ks ts ≡ true
  fields-stay scope [] [] h = refl
  fields-stay scope [] (t ∷ ts) h = absurd cc
  fields-stay scope (k ∷ ks) [] h = absurd cc
  fields-stay scope (k ∷ ks) (t ∷ ts) h =
      both-stay (is_a d scope withins.Receiver (sort_of k) t) (are_fields d scope ks ts) (is_a e scope withins.Receiver (sort_of k) t)
      (are_fields e scope ks ts) (is_a-stays scope withins.Receiver (sort_of k) t) (fields-stay scope ks ts) h

  sent-stays : (scope : Scope) (o p : Option NoteForm) (ts : List Term) → ((x : NoteForm) → o ≡ Some x → p ≡ Some x)
      → are_sent d scope o ts ≡ true → are_sent e scope p ts ≡ true
  sent-stays scope None p ts stay h = absurd cc
  sent-stays scope (Some x) p ts stay h = ap (λ q. are_sent e scope q ts) (stay x refl) ∙ fields-stay scope x.fields ts h

  send-stays : (scope : Scope) (x : Send) → is_send d scope x ≡ true → is_send e scope x ≡ true
  send-stays scope x h =
      let told = same_truth x.each (list_any has_it x.fields) in
      both-stay (are_sent d scope (slice_get d.notes x.form) x.fields) (is_a d scope withins.Nothing sorts.Nodes x.to && told)
      (are_sent e scope (slice_get e.notes x.form) x.fields) (is_a e scope withins.Nothing sorts.Nodes x.to && told)
      (sent-stays scope (slice_get d.notes x.form) (slice_get e.notes x.form) x.fields (g.notes x.form))
      (both-stay (is_a d scope withins.Nothing sorts.Nodes x.to) told (is_a e scope withins.Nothing sorts.Nodes x.to) told
      (is_a-stays scope withins.Nothing sorts.Nodes x.to) (λ a. a)) h

  pub rule-stays : (scope : Scope) (sends : ℕ) (x : Rule) → is_rule_in d scope sends x ≡ true → is_rule_in e scope sends x ≡ true
  rule-stays scope sends x h =
      let old_sends = nat_le (length x.sends) sends && list_all (is_send d scope) x.sends in
      let new_sends = nat_le (length x.sends) sends && list_all (is_send e scope) x.sends in
      let old_sets = list_all (is_assignment d scope) x.sets && old_sends in
      let new_sets = list_all (is_assignment e scope) x.sets && new_sends in
      both-stay (is_a d scope withins.Nothing sorts.Truth x.guard) (nat_le (length x.sets) 16 && old_sets) (is_a e scope withins.Nothing sorts.Truth x.guard)
      (nat_le (length x.sets) 16 && new_sets) (is_a-stays scope withins.Nothing sorts.Truth x.guard)
      (both-stay (nat_le (length x.sets) 16) old_sets (nat_le (length x.sets) 16) new_sets (λ a. a)
      (both-stay (list_all (is_assignment d scope) x.sets) old_sends (list_all (is_assignment e scope) x.sets) new_sends
      (all-stay (is_assignment d scope) (is_assignment e scope) (assignment-stays scope) x.sets)
      (both-stay (nat_le (length x.sends) sends) (list_all (is_send d scope) x.sends) (nat_le (length x.sends) sends) (list_all (is_send e scope) x.sends)
      (λ a. a) (all-stay (is_send d scope) (is_send e scope) (send-stays scope) x.sends)))) h

  pub event-stays : (x : Event) → is_event d x ≡ true → is_event e x ≡ true
  event-stays (events.Note form) h = lt-ltb form (length e.notes) (omega (arith, ltb-true form (length d.notes) h, g.more_notes))
  event-stays other h = refl

  pub chain-stays : (x : Chain) → is_chain d x ≡ true → is_chain e x ≡ true
  chain-stays x h =
      let old_rules = list_all (is_rule_in d (scope_of x.on) (sends_of x.on)) x.rules in
      let new_rules = list_all (is_rule_in e (scope_of x.on) (sends_of x.on)) x.rules in
      both-stay (is_a d scopes.Who withins.Nothing sorts.Nodes x.who) (is_event d x.on && (nat_le 1 (length x.rules) && old_rules))
      (is_a e scopes.Who withins.Nothing sorts.Nodes x.who) (is_event e x.on && (nat_le 1 (length x.rules) && new_rules))
      (is_a-stays scopes.Who withins.Nothing sorts.Nodes x.who)
      (both-stay (is_event d x.on) (nat_le 1 (length x.rules) && old_rules) (is_event e x.on) (nat_le 1 (length x.rules) && new_rules)
      (event-stays x.on)
      (both-stay (nat_le 1 (length x.rules)) old_rules (nat_le 1 (length x.rules)) new_rules (λ a. a)
      (all-stay (is_rule_in d (scope_of x.on) (sends_of x.on)) (is_rule_in e (scope_of x.on) (sends_of x.on)) (rule-stays (scope_of x.on) (sends_of x.on))
      x.rules))) h

  pub shown-stays : (i : ℕ) → is_shown d i ≡ true → is_shown e i ≡ true
  shown-stays i h = lt-ltb i (length e.variables) (omega (arith, ltb-true i (length d.variables) h, g.more_variables))
