-- A packet as a list of notes.
use Rattle.std.proofs.Common.{◌≡◌, ℕ, zero, suc, ◌+◌, ◌-◌, ◌≤◌, Bool, true, false, cond, not, ◌&&◌, ◌||◌, List, [], ◌∷◌, ◌++◌, length, map, replicate}
use Rattle.std.proofs.Common.{nat_eq, refl, sym, ap, ◌∙◌, arith, length-append}
use Rattle.std.specs.Prelude.{Option, None, Some, slice_get, slice_set, nat_lt}
use Rattle.std.specs.List.{list_any}
use Rattle.std.proofs.lemmas.List.{length-map}
use Rattle.std.proofs.lemmas.List.Folds.{list_any-append}
use Rattle.std.proofs.lemmas.Bool.{and_parts, both_ways, eqb-true, eq-eqb, lt-ltb, le-ltb, ltb-true, ltb-false, not-true}
use Rattle.lf_rule_machine.specs.declared.state.Note.{Note}
use Rattle.lf_rule_machine.specs.declared.state.Packet.{Packet}
use Rattle.lf_rule_machine.specs.States.{is_lost, loses, notes_in, packed, packet_of, place_for, same_note}
use Rattle.lf_rule_machine.specs.Packets.{IsPacket, among, are_of_other_forms, has_form, instead, is_lost_among, packet_with}

-- places: those of some notes, and so many without one
abbrev places : List Note → ℕ → List (Option Note)
places xs k = map Some xs ++ replicate k None

empty-notes : (k : ℕ) → notes_in (replicate k None) ≡ []
empty-notes zero = refl
empty-notes (suc k) = empty-notes k

pub notes-places : (xs : List Note) (k : ℕ) → notes_in (places xs k) ≡ xs
notes-places [] k = empty-notes k
notes-places (x ∷ xs) k = ap (λ ys. x ∷ ys) (notes-places xs k)

module _ (note : Note) where
  -- without a note of its form, a note is put in no other one's place
  instead-none : (xs : List Note) → has_form xs note.form ≡ false → map (instead note) xs ≡ xs
  instead-none [] h = refl
  instead-none (x ∷ xs) h = either (nat_eq x.form note.form) (instead-none xs) h
    where
      either : (b : Bool) → (has_form xs note.form ≡ false → map (instead note) xs ≡ xs) → (b || has_form xs note.form) ≡ false
          → cond b note x ∷ map (instead note) xs ≡ x ∷ xs
      either true more g = cc
      either false more g = ap (λ ys. x ∷ ys) (more g)

  lost-none : (xs : List Note) → has_form xs note.form ≡ false → list_any (λ x. nat_eq x.form note.form && not (same_note x note)) xs ≡ false
  lost-none [] h = refl
  lost-none (x ∷ xs) h = either (nat_eq x.form note.form) (lost-none xs) h
    where
      either : (b : Bool) → (has_form xs note.form ≡ false → list_any (λ y. nat_eq y.form note.form && not (same_note y note)) xs ≡ false)
          → (b || has_form xs note.form) ≡ false
          → ((b && not (same_note x note)) || list_any (λ y. nat_eq y.form note.form && not (same_note y note)) xs) ≡ false
      either true more g = cc
      either false more g = more g

  -- behind the others, where there is a place without a note
  abbrev behind : List Note → ℕ → List (Option Note)
  behind xs zero = places xs zero
  behind xs (suc k) = places (xs ++ note ∷ []) k

  abbrev after : List Note → ℕ → List (Option Note)
  after xs k = cond (has_form xs note.form) (places (map (instead note) xs) k) (behind xs k)

  first-behind : (x : Note) (xs : List Note) (k : ℕ) → behind (x ∷ xs) k ≡ Some x ∷ behind xs k
  first-behind x xs zero = refl
  first-behind x xs (suc k) = refl

  first-after : (x : Note) (xs : List Note) (k : ℕ) (b : Bool)
      → Some x ∷ cond b (places (map (instead note) xs) k) (behind xs k) ≡ cond b (Some x ∷ places (map (instead note) xs) k) (behind (x ∷ xs) k)
  first-after x xs k true = refl
  first-after x xs k false = sym (first-behind x xs k)

  -- the form of a first note is none of the others'
  no-other : (x : Note) (xs : List Note) → nat_eq x.form note.form ≡ true → not (has_form xs x.form) ≡ true → has_form xs note.form ≡ false
  no-other x xs e h = ap (has_form xs) (sym (eqb-true x.form note.form e)) ∙ not-true (has_form xs x.form) h

  pub put-places : (xs : List Note) (k : ℕ) → are_of_other_forms xs ≡ true
      → slice_set (places xs k) (place_for (places xs k) note.form) (Some note) ≡ after xs k
  put-places [] zero h = refl
  put-places [] (suc k) h = refl
  put-places (x ∷ xs) k h =
      let parts = and_parts (not (has_form xs x.form)) (are_of_other_forms xs) h in
      either (nat_eq x.form note.form) (λ e. instead-none xs (no-other x xs e parts.0)) (put-places xs k parts.1)
    where
      either : (b : Bool) → (b ≡ true → map (instead note) xs ≡ xs)
          → slice_set (places xs k) (place_for (places xs k) note.form) (Some note) ≡ after xs k
          → slice_set (Some x ∷ places xs k) (cond b 0 (suc (place_for (places xs k) note.form))) (Some note)
          ≡ cond (b || has_form xs note.form) (Some (cond b note x) ∷ places (map (instead note) xs) k) (behind (x ∷ xs) k)
      either true same more = ap (λ ys. Some note ∷ places ys k) (sym (same refl))
      either false same more = ap (λ ys. Some x ∷ ys) more ∙ first-after x xs k (has_form xs note.form)

  -- whether a note is lost: another one of its form, or there is no place
  abbrev no-place : ℕ → Bool
  no-place zero = true
  no-place (suc k) = false

  abbrev lost : List Note → ℕ → Bool
  lost xs k = cond (has_form xs note.form) (list_any (λ x. nat_eq x.form note.form && not (same_note x note)) xs) (no-place k)

  or-false : (b : Bool) → (b || false) ≡ b
  or-false true = refl
  or-false false = refl

  pub lost-places : (xs : List Note) (k : ℕ) → are_of_other_forms xs ≡ true
      → is_lost (slice_get (places xs k) (place_for (places xs k) note.form)) note ≡ lost xs k
  lost-places [] zero h = refl
  lost-places [] (suc k) h = refl
  lost-places (x ∷ xs) k h =
      let parts = and_parts (not (has_form xs x.form)) (are_of_other_forms xs) h in
      either (nat_eq x.form note.form) (λ e. lost-none xs (no-other x xs e parts.0)) (lost-places xs k parts.1)
    where
      either : (b : Bool) → (b ≡ true → list_any (λ y. nat_eq y.form note.form && not (same_note y note)) xs ≡ false)
          → is_lost (slice_get (places xs k) (place_for (places xs k) note.form)) note ≡ lost xs k
          → is_lost (slice_get (Some x ∷ places xs k) (cond b 0 (suc (place_for (places xs k) note.form)))) note
          ≡ cond (b || has_form xs note.form)
          ((b && not (same_note x note)) || list_any (λ y. nat_eq y.form note.form && not (same_note y note)) xs) (no-place k)
      either true same more = sym (or-false (not (same_note x note))) ∙ ap (λ c. not (same_note x note) || c) (sym (same refl))
      either false same more = more

  -- with four places
  room : (n k : ℕ) → n + k ≡ 4 → no-place k ≡ not (nat_lt n 4)
  room n zero h = ap not (sym (le-ltb n 4 (omega (arith, h))))
  room n (suc k) h = ap not (sym (lt-ltb n 4 (omega (arith, h))))

  left : (ys : List Note) (k : ℕ) → length ys + k ≡ 4 → k ≡ 4 - length ys
  left ys k sum = omega (arith, sum)

  pub put-packet : (xs : List Note) → length xs ≤ 4 → are_of_other_forms xs ≡ true → packed (packet_with xs) note ≡ packet_with (among xs note)
  put-packet xs few forms =
      ap (λ (ps : List (Option Note)). record { notes = ps }) (put-places xs (4 - length xs) forms
      ∙ cases (has_form xs note.form) (4 - length xs) (nat_lt (length xs) 4) (omega (arith, few)) refl)
    where
      cases : (b : Bool) (k : ℕ) (c : Bool) → length xs + k ≡ 4 → nat_lt (length xs) 4 ≡ c
          → cond b (places (map (instead note) xs) k) (behind xs k)
          ≡ (packet_with (cond b (map (instead note) xs) (cond c (xs ++ note ∷ []) xs))).notes
      cases true k c sum e = ap (λ n. places (map (instead note) xs) n) (left (map (instead note) xs) k (ap (λ n. n + k) (length-map xs (instead note)) ∙ sum))
      cases false zero true sum e = absurd (omega (arith, sum, ltb-true (length xs) 4 e))
      cases false zero false sum e = ap (places xs) (left xs zero sum)
      cases false (suc k) true sum e =
          ap (places (xs ++ note ∷ [])) (left (xs ++ note ∷ []) k (ap (λ n. n + k) (length-append xs (note ∷ [])) ∙ omega (arith, sum)))
      cases false (suc k) false sum e = absurd (omega (arith, sum, ltb-false (length xs) 4 e))

  pub lost-packet : (xs : List Note) → length xs ≤ 4 → are_of_other_forms xs ≡ true → loses (packet_with xs) note ≡ is_lost_among xs note
  lost-packet xs few forms =
      lost-places xs (4 - length xs) forms
      ∙ ap (cond (has_form xs note.form) (list_any (λ x. nat_eq x.form note.form && not (same_note x note)) xs))
      (room (length xs) (4 - length xs) (omega (arith, few)))

  -- forms of their own stay so
  same-form : (x : Note) → (instead note x).form ≡ x.form
  same-form x = either (nat_eq x.form note.form) refl
    where
      either : (b : Bool) → nat_eq x.form note.form ≡ b → (cond b note x).form ≡ x.form
      either true e = sym (eqb-true x.form note.form e)
      either false e = refl

  instead-forms : (xs : List Note) (form : ℕ) → has_form (map (instead note) xs) form ≡ has_form xs form
  instead-forms [] form = refl
  instead-forms (x ∷ xs) form =
      ap (λ f. nat_eq f form || has_form (map (instead note) xs) form) (same-form x) ∙ ap (λ b. nat_eq x.form form || b) (instead-forms xs form)

  instead-others : (xs : List Note) → are_of_other_forms (map (instead note) xs) ≡ are_of_other_forms xs
  instead-others [] = refl
  instead-others (x ∷ xs) =
      ap (λ b. not b && are_of_other_forms (map (instead note) xs)) (ap (has_form (map (instead note) xs)) (same-form x) ∙ instead-forms xs x.form)
      ∙ ap (λ b. not (has_form xs x.form) && b) (instead-others xs)

  behind-others : (xs : List Note) → are_of_other_forms xs ≡ true → has_form xs note.form ≡ false → are_of_other_forms (xs ++ note ∷ []) ≡ true
  behind-others [] h free = refl
  behind-others (x ∷ xs) h free =
      let parts = and_parts (not (has_form xs x.form)) (are_of_other_forms xs) h in
      let apart = or-parts (nat_eq x.form note.form) (has_form xs note.form) free in
      both (not (has_form (xs ++ note ∷ []) x.form)) (are_of_other_forms (xs ++ note ∷ []))
      (ap not (list_any-append (λ y. nat_eq y.form x.form) xs (note ∷ [])
      ∙ ap (λ b. b || (nat_eq note.form x.form || false)) (not-true (has_form xs x.form) parts.0)
      ∙ ap (λ b. b || false) (flip x.form note.form apart.0)))
      (behind-others xs parts.1 apart.1)
    where
      or-parts : (b c : Bool) → (b || c) ≡ false → (b ≡ false) × (c ≡ false)
      or-parts true c e = cc
      or-parts false c e = (refl, e)

      both : (b c : Bool) → b ≡ true → c ≡ true → (b && c) ≡ true
      both b c e f = ap (λ a. a && c) e ∙ f

      flip : (a b : ℕ) → nat_eq a b ≡ false → nat_eq b a ≡ false
      flip a b e = decide (nat_eq b a) refl
        where
          decide : (c : Bool) → nat_eq b a ≡ c → c ≡ false
          decide true g = absurd (both_ways (nat_eq a b) e (eq-eqb a b (sym (eqb-true b a g))))
          decide false g = refl

  pub among-forms : (xs : List Note) → are_of_other_forms xs ≡ true → are_of_other_forms (among xs note) ≡ true
  among-forms xs h = either (has_form xs note.form) refl (nat_lt (length xs) 4)
    where
      either : (b : Bool) → has_form xs note.form ≡ b → (c : Bool)
          → are_of_other_forms (cond b (map (instead note) xs) (cond c (xs ++ note ∷ []) xs)) ≡ true
      either true e c = instead-others xs ∙ h
      either false e true = behind-others xs h e
      either false e false = h

  some-note : (xs : List Note) → has_form xs note.form ≡ true → 1 ≤ length xs
  some-note [] e = cc
  some-note (x ∷ xs) e = omega arith

  pub among-length : (xs : List Note) → length xs ≤ 4 → (length (among xs note) ≤ 4) × (1 ≤ length (among xs note))
  among-length xs few = either (has_form xs note.form) refl (nat_lt (length xs) 4) refl
    where
      either : (b : Bool) → has_form xs note.form ≡ b → (c : Bool) → nat_lt (length xs) 4 ≡ c
          → (length (cond b (map (instead note) xs) (cond c (xs ++ note ∷ []) xs)) ≤ 4)
          × (1 ≤ length (cond b (map (instead note) xs) (cond c (xs ++ note ∷ []) xs)))
      either true e c f = let same = length-map xs (instead note) in (omega (arith, same, few), omega (arith, same, some-note xs e))
      either false e true f = let more = length-append xs (note ∷ []) in (omega (arith, more, ltb-true (length xs) 4 f), omega (arith, more))
      either false e false f = (few, omega (arith, ltb-false (length xs) 4 f))

-- what is put into a packet, or into none, leaves a packet
pub put-IsPacket : (old : Option Packet) (note : Note) → ((p : Packet) → old ≡ Some p → IsPacket p) → IsPacket (packed (packet_of old) note)
put-IsPacket None note was = record {
  notes = note ∷ [];
  is = put-packet note [] (omega arith) refl;
  some = omega arith;
  few = omega arith;
  forms = refl;
}
put-IsPacket (Some p) note was =
    let h = was p refl in
    let sizes = among-length note h.notes h.few in
    record {
      notes = among h.notes note;
      is = ap (λ q. packed q note) h.is ∙ put-packet note h.notes h.few h.forms;
      some = sizes.1;
      few = sizes.0;
      forms = among-forms note h.notes h.forms;
    }

pub packet-notes : (xs : List Note) → notes_in (packet_with xs).notes ≡ xs
packet-notes xs = notes-places xs (4 - length xs)
