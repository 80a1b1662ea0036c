-- The rows of an index are the chains that are gone through.
use Rattle.std.proofs.Common.{◌≡◌, ℕ, ◌+◌, ◌*◌, ◌/◌, ◌<◌, ◌≤◌, Bool, true, false, ◌&&◌, List, []}
use Rattle.std.proofs.Common.{◌∷◌, length, nat_eq, nat_le, refl, sym, ap, ◌∙◌, arith, inl, inr}
use Rattle.std.specs.Prelude.{slice_get}
use Rattle.std.specs.List.{list_all}
use Rattle.std.proofs.lemmas.Bool.{cases_lt, lt-ltb, le-ltb, ltb-true, leb-true, and_parts, eqb-true}
use Rattle.std.proofs.lemmas.Nat.{mod-mul-add, div-mul-add}
use Rattle.std.proofs.lemmas.Option.{slice_get-get_or, slice_get_past}
use Rattle.std.proofs.lemmas.List.FromFn.{get_or-map-range_with_len, length-map-range_with_len}
use Rattle.lf_rules.specs.declared.sort.Sort.TheVariants as sorts
use Rattle.lf_rules.specs.declared.sort.Scope.TheVariants as scopes
use Rattle.lf_rules.specs.declared.sort.Within.TheVariants as withins
use Rattle.lf_rules.specs.Sorts.{is_a}
use Rattle.lf_rules.specs.Tables.{cells_in}
use Rattle.lf_rules.specs.declared.rule.Event.{Event}
use Rattle.lf_rules.specs.declared.rule.Event.TheVariants as events
use Rattle.lf_rules.specs.declared.rule.Chain.{Chain}
use Rattle.lf_rules.specs.declared.definition.Definition.{Definition}
use Rattle.lf_rules.specs.Forms.{is_from, are_variables, is_form, is_constant, is_let, is_fact, is_event, is_chain, is_shown, is_in_limits, is_well_formed}
use Rattle.lf_rule_machine.specs.Sets.{has}
use Rattle.lf_rule_machine.specs.Values.{fixed_value}
use Rattle.lf_rule_machine.specs.Events.{same_event, is_passed}
use Rattle.lf_rule_machine.specs.Choices.{numbers_of, chosen}
use Rattle.lf_rule_machine.specs.Moments.{row_of}
use Rattle.lf_rule_machine.specs.Indexes.{number_of, event_at, row_at, rows_of, row_or_none, row_for}

event_at-number : (event : Event) → event_at (number_of event) ≡ event
event_at-number events.Start = refl
event_at-number events.Wake = refl
event_at-number events.Begin = refl
event_at-number (events.Note form) = refl
event_at-number events.End = refl

-- no chain is gone through of which that is never so
none-of : (f g : Chain → Bool) → ((x : Chain) → g x ≡ true → f x ≡ false) → (xs : List Chain) (i : ℕ) → list_all g xs ≡ true → numbers_of f i xs ≡ []
none-of f g never [] i all = refl
none-of f g never (x ∷ xs) i all =
    let parts = and_parts (g x) (list_all g xs) all in
    rw (never x parts.0) (none-of f g never xs (i + 1) parts.1)

has-beyond : (s n : ℕ) → 8 ≤ n → has s n ≡ false
unfolding has
has-beyond s n h = rw (le-ltb n 8 h) refl

and-false : (b c : Bool) → c ≡ false → (b && c) ≡ false
and-false true c h = h
and-false false c h = refl

first : (a b : Bool) → (a && b) ≡ true → a ≡ true
first a b all = (and_parts a b all).0

second : (a b c : Bool) → (a && (b && c)) ≡ true → b ≡ true
second a b c all = first b c (and_parts a (b && c) all).1

third : (a b c e : Bool) → (a && (b && (c && e))) ≡ true → c ≡ true
third a b c e all = second b c e (and_parts a (b && (c && e)) all).1

seventh : (a b c e f g h i : Bool) → (a && (b && (c && (e && (f && (g && (h && i))))))) ≡ true → h ≡ true
seventh a b c e f g h i all =
    let after_b = (and_parts b _ (and_parts a _ all).1).1 in
    let after_e = (and_parts e _ (and_parts c _ after_b).1).1 in
    second g h i (and_parts f (g && (h && i)) after_e).1

not-so : (b : Bool) → (b ≡ true → ⊥) → b ≡ false
not-so true never = absurd (never refl)
not-so false never = refl

module _ (d : Definition) (nodes : ℕ) (given : List (List ℕ)) where
  -- those from 8 on go through none
  passed-beyond : (n : ℕ) (row : List ℕ) (event : Event) → 8 ≤ n → (x : Chain) → is_passed nodes n row event x ≡ false
  passed-beyond n row event far x =
      and-false (same_event x.on event) (has (fixed_value nodes row x.who) n) (has-beyond (fixed_value nodes row x.who) n far)

  chosen-beyond : (n : ℕ) (row : List ℕ) (event : Event) → 8 ≤ n → chosen d nodes n row event ≡ []
  chosen-beyond n row event far =
      none-of (is_passed nodes n row event) (λ x. true) (λ x so. passed-beyond n row event far x) d.chains 0 (all-true d.chains)
    where
      all-true : (xs : List Chain) → list_all (λ x. true) xs ≡ true
      all-true [] = refl
      all-true (x ∷ xs) = all-true xs

  -- no chain is on a form of notes from 16 on
  pub chains-formed : is_well_formed d ≡ true → list_all (is_chain d) d.chains ≡ true
  chains-formed formed =
      seventh (is_in_limits d) (are_variables d 0 d.variables) (list_all (is_form d) d.notes) (list_all (is_constant d) d.given)
      (list_all (is_let d) d.lets) (list_all (is_fact d) d.facts) (list_all (is_chain d) d.chains) (list_all (is_shown d) d.trace) formed

  few-notes : is_well_formed d ≡ true → length d.notes ≤ 16
  few-notes formed = leb-true (length d.notes) 16 (
      third (is_from 1 32 (length d.variables)) (nat_le (cells_in d) 64) (nat_le (length d.notes) 16) _ (first (is_in_limits d) _ formed))

  event-unformed : (event : Event) (form : ℕ) → length d.notes ≤ form → is_event d event ≡ true → same_event event (events.Note form) ≡ false
  event-unformed events.Start form far there = refl
  event-unformed events.Wake form far there = refl
  event-unformed events.Begin form far there = refl
  event-unformed events.End form far there = refl
  event-unformed (events.Note a) form far there =
      let low : a < length d.notes = ltb-true a (length d.notes) there in
      not-so (nat_eq a form) (λ same. let one : a ≡ form = eqb-true a form same in omega (arith, low, far, one))

  chain-unformed : (n : ℕ) (row : List ℕ) (form : ℕ) → length d.notes ≤ form → (x : Chain) → is_chain d x ≡ true
      → is_passed nodes n row (events.Note form) x ≡ false
  chain-unformed n row form far x formed =
      let there : is_event d x.on ≡ true = second (is_a d scopes.Who withins.Nothing sorts.Nodes x.who) (is_event d x.on) _ formed in
      rw (event-unformed x.on form far there) refl

  chosen-unformed : is_well_formed d ≡ true → (n : ℕ) (row : List ℕ) (event : Event) → 20 ≤ number_of event → chosen d nodes n row event ≡ []
  chosen-unformed formed n row events.Start far = absurd (omega (arith, far))
  chosen-unformed formed n row events.Wake far = absurd (omega (arith, far))
  chosen-unformed formed n row events.Begin far = absurd (omega (arith, far))
  chosen-unformed formed n row events.End far = absurd (omega (arith, far))
  chosen-unformed formed n row (events.Note form) far =
      let few = few-notes formed in
      none-of (is_passed nodes n row (events.Note form)) (is_chain d)
      (chain-unformed n row form (omega (arith, far, few))) d.chains 0 (chains-formed formed)

  -- a row that is there
  row-there : (n : ℕ) (event : Event) → n < 8 → number_of event < 20
      → row_or_none (slice_get (rows_of d nodes given) (number_of event * 8 + n)) ≡ chosen d nodes n (row_of (slice_get given n)) event
  row-there n event low few =
      let k = number_of event * 8 + n in
      let within : k < 160 = omega (arith, low, few) in
      ap row_or_none (slice_get-get_or (rows_of d nodes given) k [] (omega (arith, within, length-map-range_with_len (row_at d nodes given) 0 160)))
      ∙ get_or-map-range_with_len (row_at d nodes given) 0 160 k k [] within (omega arith)
      ∙ ap (λ m. chosen d nodes m (row_of (slice_get given m)) (event_at (k / 8))) (mod-mul-add (number_of event) 8 n low)
      ∙ ap (λ e. chosen d nodes n (row_of (slice_get given n)) e) (ap event_at (div-mul-add (number_of event) 8 n low) ∙ event_at-number event)

  row-past : (n : ℕ) (event : Event) → 20 ≤ number_of event → row_or_none (slice_get (rows_of d nodes given) (number_of event * 8 + n)) ≡ []
  row-past n event far =
      ap row_or_none (slice_get_past (rows_of d nodes given) (number_of event * 8 + n)
      (omega (arith, far, length-map-range_with_len (row_at d nodes given) 0 160)))

  -- the row for a node and an event has the chains that it goes through
  pub row_for-chosen : is_well_formed d ≡ true → (n : ℕ) (event : Event)
      → row_for (rows_of d nodes given) n event ≡ chosen d nodes n (row_of (slice_get given n)) event
  row_for-chosen formed n event = elim (cases_lt n 8) [
    | inr far ↦ rw (le-ltb n 8 far) (sym (chosen-beyond n (row_of (slice_get given n)) event far))
    | inl low ↦ rw (lt-ltb n 8 low) (elim (cases_lt (number_of event) 20) [
      | inl few ↦ row-there n event low few
      | inr past ↦ row-past n event past ∙ sym (chosen-unformed formed n (row_of (slice_get given n)) event past)
    ])
  ]
