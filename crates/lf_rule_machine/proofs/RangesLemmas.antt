-- No event takes a cell's value past the greatest of its kind.
use Rattle.std.proofs.Common.{◌≡◌, ℕ, zero, suc, ◌+◌, ◌<◌, ◌≤◌, Bool, true, false, cond, nat_eq, List, [], ◌∷◌, refl, sym, ap, ◌∙◌, subst, arith}
use Rattle.std.specs.Prelude.{slice_get, slice_set, Option, None, Some, option_map}
use Rattle.std.specs.List.{fold, range_with_len, list_all}
use Rattle.std.proofs.lemmas.Bool.{and_parts, eqb-true}
use Rattle.lf_sim.specs.declared.out.Stepped.{Stepped}
use Rattle.lf_rules.specs.declared.kind.Kind.{Kind}
use Rattle.lf_rules.specs.declared.sort.Scope.{Scope}
use Rattle.lf_rules.specs.Terms.{Term}
use Rattle.lf_rules.specs.declared.table.Table.{Table}
use Rattle.lf_rules.specs.declared.rule.Event.{Event}
use Rattle.lf_rules.specs.declared.rule.Target.{Target}
use Rattle.lf_rules.specs.declared.rule.Target.TheVariants as targets
use Rattle.lf_rules.specs.declared.rule.Assignment.{Assignment}
use Rattle.lf_rules.specs.declared.rule.Send.{Send}
use Rattle.lf_rules.specs.declared.rule.Rule.{Rule}
use Rattle.lf_rules.specs.declared.rule.Chain.{Chain}
use Rattle.lf_rules.specs.declared.definition.Variable.{Variable}
use Rattle.lf_rules.specs.declared.definition.Definition.{Definition}
use Rattle.lf_rules.specs.Kinds.{most_of}
use Rattle.lf_rules.specs.Tables.{count_of, same_cells, others_of, cell_of, is_table_of, is_table}
use Rattle.lf_rules.specs.Forms.{is_whole, is_set, is_assignment, is_rule_in, scope_of, sends_of, is_chain, is_well_formed}
use Rattle.lf_rules.proofs.Laws.{cells-apart}
use Rattle.lf_rule_machine.specs.Moments.{Moment, with_it, given_here}
use Rattle.lf_rule_machine.specs.declared.state.State.{State}
use Rattle.lf_rule_machine.specs.declared.state.Note.{Note}
use Rattle.lf_rule_machine.specs.declared.state.Packet.{Packet}
use Rattle.lf_rule_machine.specs.Sets.{has, is_true}
use Rattle.lf_rule_machine.specs.Places.{index_of}
use Rattle.lf_rule_machine.specs.Values.{zero_or, value_of}
use Rattle.lf_rule_machine.specs.Events.{Draft, fitted, set_fitted, is_passed, is_receiver, place, put, set_variable, set_found, set_cell, set_member}
use Rattle.lf_rule_machine.specs.Events.{set_each, assign_to, assign, fill_as, fill, kinds_of, drafted, put_draft, place_draft, send_one, send_each, send}
use Rattle.lf_rule_machine.specs.Events.{do_rule, first_true, do_found, take_first, pass, act}
use Rattle.lf_rule_machine.specs.Ranges.{IsInRange}
use Rattle.lf_rule_machine.proofs.CellsLemmas.{rules-formed, sets-formed, one-there, index-low, same-count}
use Rattle.lf_rule_machine.proofs.IndexesLemmas.{chains-formed}

-- what each step of a fold keeps, the fold keeps
fold-keeps : {A B : Type 0} (P : B → Type 0) (f : B → A → B) → ((b : B) (x : A) → P b → P (f b x)) → (b : B) (xs : List A) → P b → P (fold f b xs)
fold-keeps P f keeps b [] h = h
fold-keeps P f keeps b (x ∷ xs) h = fold-keeps P f keeps (f b x) xs (keeps b x h)

-- what each step keeps by something that passes a test, a fold by such keeps
all-keep : {A B : Type 0} (P : B → Type 0) (f : B → A → B) (ok : A → Bool) → ((b : B) (x : A) → ok x ≡ true → P b → P (f b x)) → (b : B) (xs : List A)
    → list_all ok xs ≡ true → P b → P (fold f b xs)
all-keep P f ok keeps b [] all h = h
all-keep P f ok keeps b (x ∷ xs) all h =
    let parts = and_parts (ok x) (list_all ok xs) all in
    all-keep P f ok keeps (f b x) xs parts.1 (keeps b x parts.0 h)

cond-keeps : {A : Type 0} (P : A → Type 0) (b : Bool) (x y : A) → P x → P y → P (cond b x y)
cond-keeps P true x y h k = h
cond-keeps P false x y h k = k

-- a list with one number more that is small enough
set-small : (xs : List ℕ) (i j v m : ℕ) → (i ≡ j → v ≤ m) → zero_or (slice_get xs j) ≤ m → zero_or (slice_get (slice_set xs i v) j) ≤ m
set-small [] i j v m hit miss = miss
set-small (x ∷ xs) zero zero v m hit miss = hit refl
set-small (x ∷ xs) zero (suc j) v m hit miss = miss
set-small (x ∷ xs) (suc i) zero v m hit miss = miss
set-small (x ∷ xs) (suc i) (suc j) v m hit miss = set-small xs i j v m (λ same. hit (ap suc same)) miss

abbrev variable_or : Variable → Option Variable → Variable
variable_or y None = y
variable_or y (Some x) = x

-- a cell that gets a value that fits
module _ (d : Definition) where
  fitted-ranged : (s : State) (i : ℕ) (x : Variable) (k v : ℕ) → slice_get d.variables i ≡ Some x → k < count_of x.cells → IsInRange d s
      → IsInRange d (set_fitted s x.kind (cell_of i (others_of d i) k) v)
  fitted-ranged s i x k v there low ranged = λ j y is l few.
      set-small s.values (cell_of i (others_of d i) k) (cell_of j (others_of d j) l) (fitted x.kind v) (most_of y.kind)
      (λ same.
      let apart = cells-apart d i j x y k l there is low few same in
      let one : x ≡ y = ap (variable_or x) (sym there ∙ ap (slice_get d.variables) apart.0 ∙ is) in
      let small : fitted x.kind v ≤ most_of x.kind = omega arith in
      subst (λ z. fitted x.kind v ≤ most_of z.kind) one small)
      (ranged j y is l few)

module _ (d : Definition) (at : Moment) where
  variable-ranged : (s : State) (i : ℕ) (found : Option Variable) (e : Term) → slice_get d.variables i ≡ found → is_whole found ≡ true → IsInRange d s
      → IsInRange d (set_variable d at s i found e)
  variable-ranged s i None e there whole ranged = ranged
  variable-ranged s i (Some x) e there whole ranged = fitted-ranged d s i x 0 (value_of d at s e) there (one-there x.cells whole) ranged

  -- a place of a table that there is
  found-ranged : (s : State) (t : Table) (x : Variable) (e : Term) (where_to : ℕ) (o : Option ℕ) → slice_get d.variables t.of ≡ Some x
      → t.others ≡ others_of d t.of → count_of x.cells ≡ count_of t.cells → index_of at.nodes t.cells where_to ≡ o → IsInRange d s
      → IsInRange d (set_found d at s x.kind e where_to (option_map (cell_of t.of t.others) o))
  found-ranged s t x e where_to None there others count is ranged = ranged
  found-ranged s t x e where_to (Some k) there others count is ranged =
      let low = index-low at.nodes t.cells where_to k is in
      subst (λ o. IsInRange d (set_fitted s x.kind (cell_of t.of o k) (value_of d (with_it at where_to) s e))) (sym others)
      (fitted-ranged d s t.of x k (value_of d (with_it at where_to) s e) there (omega (arith, low, count)) ranged)

  cell-ranged : (s : State) (t : Table) (found : Option Variable) (e : Term) (where_to : ℕ) → slice_get d.variables t.of ≡ found
      → is_table_of found t.cells ≡ true → t.others ≡ others_of d t.of → IsInRange d s → IsInRange d (set_cell d at t found e s where_to)
  cell-ranged s t None e where_to there table others ranged = ranged
  cell-ranged s t (Some x) e where_to there table others ranged =
      let count = same-count x.cells t.cells (and_parts (same_cells x.cells t.cells) _ table).0 in
      found-ranged s t x e where_to (index_of at.nodes t.cells where_to) there others count refl ranged

  table-ranged : (s : State) (t : Table) (e : Term) (where_to : ℕ) → is_table d t ≡ true → IsInRange d s
      → IsInRange d (set_cell d at t (slice_get d.variables t.of) e s where_to)
  table-ranged s t e where_to table ranged =
      let parts = and_parts (is_table_of (slice_get d.variables t.of) t.cells) (nat_eq t.others (others_of d t.of)) table in
      cell-ranged s t (slice_get d.variables t.of) e where_to refl parts.0 (eqb-true t.others (others_of d t.of) parts.1) ranged

  each-ranged : (set : ℕ) (t : Table) (e : Term) (s : State) → is_table d t ≡ true → IsInRange d s
      → IsInRange d (set_each d at set t (slice_get d.variables t.of) e s)
  each-ranged set t e s table ranged =
      fold-keeps (IsInRange d) (set_member d at set t (slice_get d.variables t.of) e)
      (λ b n h. cond-keeps (IsInRange d) (has set n) (set_cell d at t (slice_get d.variables t.of) e b n) b (table-ranged b t e n table h) h)
      s (range_with_len 0 at.nodes) ranged

  assigned-ranged : (scope : Scope) (s : State) (target : Target) (e : Term) → is_set d scope target e ≡ true → IsInRange d s
      → IsInRange d (assign_to d at s target e)
  assigned-ranged scope s (targets.Variable i) e formed ranged =
      variable-ranged s i (slice_get d.variables i) e refl (and_parts (is_whole (slice_get d.variables i)) _ formed).0 ranged
  assigned-ranged scope s (targets.Cell t where_to) e formed ranged =
      table-ranged s t e (value_of d at s where_to) (and_parts (is_table d t) _ formed).0 ranged
  assigned-ranged scope s (targets.Cells t nodes) e formed ranged =
      each-ranged (value_of d at s nodes) t e s (and_parts (is_table d t) _ formed).0 ranged

  assign-ranged : (scope : Scope) (s : State) (a : Assignment) → is_assignment d scope a ≡ true → IsInRange d s → IsInRange d (assign d at s a)
  assign-ranged scope s a formed ranged = assigned-ranged scope s a.target a.value formed ranged

  -- fields change no cell
  filled-ranged : (draft : Draft) (k : ℕ) (kind : Option Kind) (e : Term) → IsInRange d draft.state → IsInRange d (fill_as d at draft k kind e).state
  filled-ranged draft k None e ranged = ranged
  filled-ranged draft k (Some kind) e ranged = ranged

  fill-ranged : (kinds : List Kind) (draft : Draft) (k : ℕ) (es : List Term) → IsInRange d draft.state → IsInRange d (fill d at kinds draft k es).state
  fill-ranged kinds draft k [] ranged = ranged
  fill-ranged kinds draft k (e ∷ es) ranged =
      fill-ranged kinds (fill_as d at draft k (slice_get kinds k) e) (k + 1) es (filled-ranged draft k (slice_get kinds k) e ranged)

  drafted-ranged : (s : State) (x : Send) → IsInRange d s → IsInRange d (drafted d at s x).state
  drafted-ranged s x ranged = fill-ranged (kinds_of (slice_get d.notes x.form)) _ 0 x.fields ranged

module _ (d : Definition) (at : Moment) where
  abbrev IsRanged : Stepped State Packet → Type 0
  IsRanged turn = IsInRange d turn.state

  put-ranged : (set : ℕ) (note : Note) (turn : Stepped State Packet) (m : ℕ) → IsRanged turn → IsRanged (put at set note turn m)
  put-ranged set note turn m ranged = cond-keeps IsRanged (is_receiver at set m) (place note turn m) turn ranged ranged

  one-ranged : (set : ℕ) (x : Send) (turn : Stepped State Packet) (m : ℕ) → IsRanged turn → IsRanged (send_one d at set x turn m)
  one-ranged set x turn m ranged =
      cond-keeps IsRanged (is_receiver at set m) (place_draft d at turn x m (drafted d (with_it at m) turn.state x)) turn
      (drafted-ranged d (with_it at m) turn.state x ranged) ranged

  -- a send changes no cell
  send-ranged : (turn : Stepped State Packet) (x : Send) → IsRanged turn → IsRanged (send d at turn x)
  send-ranged turn x ranged =
      let draft = drafted d at turn.state x in
      let note : Note = record { form = x.form; fields = draft.fields } in
      let set = value_of d at draft.state x.to in
      let each = value_of d at turn.state x.to in
      cond-keeps IsRanged x.each (send_each d at each x turn) (put_draft d at turn x draft)
      (fold-keeps IsRanged (send_one d at each x) (one-ranged each x) turn (range_with_len 0 at.nodes) ranged)
      (fold-keeps IsRanged (put at set note) (put-ranged set note) (record { state = draft.state; out = turn.out }) (range_with_len 0 at.nodes)
      (drafted-ranged d at turn.state x ranged))

  rule-ranged : (scope : Scope) (sends : ℕ) (turn : Stepped State Packet) (rule : Rule) → is_rule_in d scope sends rule ≡ true → IsRanged turn
      → IsRanged (do_rule d at turn rule)
  rule-ranged scope sends turn rule formed ranged =
      fold-keeps IsRanged (send d at) send-ranged (record { state = fold (assign d at) turn.state rule.sets; out = turn.out }) rule.sends
      (all-keep (IsInRange d) (assign d at) (is_assignment d scope) (assign-ranged d at scope) turn.state rule.sets (sets-formed d scope sends rule formed)
      ranged)

  first-ranged : (scope : Scope) (sends : ℕ) (turn : Stepped State Packet) (rules : List Rule) → list_all (is_rule_in d scope sends) rules ≡ true
      → IsRanged turn → IsRanged (do_found d at turn (first_true d at turn.state rules))
  first-ranged scope sends turn [] all ranged = ranged
  first-ranged scope sends turn (rule ∷ rules) all ranged =
      let parts = and_parts (is_rule_in d scope sends rule) (list_all (is_rule_in d scope sends) rules) all in
      cond-keeps (λ found. IsRanged (do_found d at turn found)) (is_true (value_of d at turn.state rule.guard)) (Some rule)
      (first_true d at turn.state rules) (rule-ranged scope sends turn rule parts.0 ranged) (first-ranged scope sends turn rules parts.1 ranged)

  pass-ranged : (event : Event) (turn : Stepped State Packet) (chain : Chain) → is_chain d chain ≡ true → IsRanged turn → IsRanged (pass d at event turn chain)
  pass-ranged event turn chain formed ranged =
      cond-keeps IsRanged (is_passed at.nodes at.me (given_here at) event chain) (take_first d at turn chain.rules) turn
      (first-ranged (scope_of chain.on) (sends_of chain.on) turn chain.rules (rules-formed d chain formed) ranged) ranged

  pub act-ranged : (event : Event) (turn : Stepped State Packet) → is_well_formed d ≡ true → IsInRange d turn.state → IsInRange d (act d at event turn).state
  unfolding act
  act-ranged event turn formed ranged =
      all-keep IsRanged (pass d at event) (is_chain d) (pass-ranged event) turn d.chains (chains-formed d at.nodes at.given formed) ranged
