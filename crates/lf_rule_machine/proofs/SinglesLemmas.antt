-- As long as each packet has one note, what is done with packets is what is done with their notes; and a packet with notes of two forms keeps two.
use Rattle.std.proofs.Common.{◌≡◌, ℕ, suc, ◌+◌, ◌<◌, Bool, true, false, cond, List, [], ◌∷◌, refl, sym, ap, ◌∙◌, subst, inl, inr}
use Rattle.std.specs.Prelude.{◌⊎◌, ◌&&◌, ◌||◌, not, nat_eq, Option, None, Some, map, replicate, slice_get, slice_set}
use Rattle.std.specs.Option.{option_map}
use Rattle.std.specs.List.{fold, range_with_len}
use Rattle.std.proofs.lemmas.Bool.{both_ways, cases_lt, eqb-true, eqb-false}
use Rattle.lf_sim.specs.declared.letter.Letter.{Letter}
use Rattle.lf_sim.specs.declared.out.Out.{Out}
use Rattle.lf_sim.specs.declared.out.Stepped.{Stepped}
use Rattle.lf_sim.specs.Outs.{note_to, with_note}
use Rattle.lf_sim.specs.OutsLemmas.{note_to-far, note_to-notes_by, with_note-there, with_note-others}
use Rattle.lf_rules.specs.declared.kind.Kind.{Kind}
use Rattle.lf_rules.specs.Terms.{Term}
use Rattle.lf_rules.specs.declared.rule.Event.{Event}
use Rattle.lf_rules.specs.declared.rule.Event.TheVariants as events
use Rattle.lf_rules.specs.declared.table.Table.{Table}
use Rattle.lf_rules.specs.declared.rule.Target.{Target}
use Rattle.lf_rules.specs.declared.rule.Target.TheVariants as targets
use Rattle.lf_rules.specs.declared.rule.Assignment.{Assignment}
use Rattle.lf_rules.specs.declared.rule.Send.{Send}
use Rattle.lf_rules.specs.declared.rule.Rule.{Rule}
use Rattle.lf_rules.specs.declared.rule.Chain.{Chain}
use Rattle.lf_rules.specs.declared.definition.Variable.{Variable}
use Rattle.lf_rules.specs.declared.definition.Definition.{Definition}
use Rattle.lf_rule_machine.specs.Moments.{Moment, with_it, given_here}
use Rattle.lf_rule_machine.specs.Places.{cell_at}
use Rattle.lf_rule_machine.specs.declared.state.State.{State}
use Rattle.lf_rule_machine.specs.declared.state.Note.{Note}
use Rattle.lf_rule_machine.specs.declared.state.Packet.{Packet}
use Rattle.lf_rule_machine.specs.Sets.{has}
use Rattle.lf_rule_machine.specs.States.{same_numbers, same_note, place_for, is_lost, packed, packet_of}
use Rattle.lf_rule_machine.specs.Values.{value_of}
use Rattle.lf_rule_machine.specs.Events.{is_passed, is_receiver, place_in, place, put, put_all, kinds_of, set_variable, set_found, set_cell}
use Rattle.lf_rule_machine.specs.Events.{set_member, set_each, assign_to, assign}
use Rattle.lf_rule_machine.specs.Events.{Draft, fill_as, fill, drafted, put_draft, place_draft, send_one, send_each, send}
use Rattle.lf_rule_machine.specs.Events.{first_true, do_found, take_first, pass, act}
use Rattle.lf_rule_machine.specs.Machines.{moment, no_fields, act_alone, hear_of, step_of}
use Rattle.lf_rule_machine.specs.RuledLemmas.{fold-keeps}
use Rattle.lf_rule_machine.specs.Singles as singles
use Rattle.lf_rule_machine.specs.SingleRuns.{single, IsSingle, AreSingles, letter_in_packet, out_in_packets, in_packets}

-- notes as packets
option-cond : (b : Bool) (x : Note) (o : Option Note)
    → cond b (Some (single x)) (option_map single o) ≡ option_map single (cond b (Some x) o)
option-cond true x o = refl
option-cond false x o = refl

pub note_to-packets : (out : Out Note) (m : ℕ) → note_to (out_in_packets out) m ≡ option_map single (note_to out m)
note_to-packets out m = elim (cases_lt m 8) [
  | inl near ↦ note_to-notes_by (λ k. option_map single (note_to out k)) m near
  | inr far ↦ note_to-far (out_in_packets out) m far ∙ ap (option_map single) (sym (note_to-far out m far))
]

with_note-packets : (out : Out Note) (m : ℕ) (x : Note) → with_note (out_in_packets out) m (single x) ≡ out_in_packets (with_note out m x)
with_note-packets out m x =
    rw (
      option-cond (nat_eq 0 m) x out.to0,
      option-cond (nat_eq 1 m) x out.to1,
      option-cond (nat_eq 2 m) x out.to2,
      option-cond (nat_eq 3 m) x out.to3,
      option-cond (nat_eq 4 m) x out.to4,
      option-cond (nat_eq 5 m) x out.to5,
      option-cond (nat_eq 6 m) x out.to6,
      option-cond (nat_eq 7 m) x out.to7,
    ) refl

-- a packet has a second note
abbrev has_two : List (Option Note) → Bool
has_two [] = false
has_two (None ∷ xs) = false
has_two (Some x ∷ []) = false
has_two (Some x ∷ None ∷ xs) = false
has_two (Some x ∷ Some y ∷ xs) = true

set-two : (b c : Bool) (k : ℕ) (x y note : Note) (xs : List (Option Note))
    → has_two (slice_set (Some x ∷ Some y ∷ xs) (cond b 0 (suc (cond c 0 (suc k)))) (Some note)) ≡ true
set-two true c k x y note xs = refl
set-two false true k x y note xs = refl
set-two false false k x y note xs = refl

put-two : (xs : List (Option Note)) (note : Note) → has_two xs ≡ true → has_two (slice_set xs (place_for xs note.form) (Some note)) ≡ true
put-two [] note two = absurd (cc)
put-two (None ∷ xs) note two = absurd (cc)
put-two (Some x ∷ []) note two = absurd (cc)
put-two (Some x ∷ None ∷ xs) note two = absurd (cc)
put-two (Some x ∷ Some y ∷ xs) note two =
    set-two (nat_eq x.form note.form) (nat_eq y.form note.form) (place_for xs note.form) x y note xs

-- some packet has a second note
pub record HasTwo (out : Out Packet) : Type 0 where
  pub to : ℕ
  pub packet : Packet
  pub there : note_to out to ≡ Some packet
  pub two : has_two packet.notes ≡ true

pub none-two : (out : Out Packet) → AreSingles out → HasTwo out → ⊥
none-two out are h =
    let one : IsSingle h.packet = are h.to h.packet h.there in
    let not_two : false ≡ true = sym (ap (λ (p : Packet). has_two p.notes) one.1) ∙ h.two in
    absurd (cc)

pub is-there : (out : Out Packet) (m : ℕ) (p : Packet) → note_to out m ≡ Some p → m < 8
is-there out m p there = elim (cases_lt m 8) [
  | inl near ↦ near
  | inr far ↦
      let nowhere : None ≡ Some p = sym (note_to-far out m far) ∙ there in
      absurd (cc)
]

place-two : (note : Note) (turn : Stepped State Packet) (m : ℕ) → HasTwo turn.out → HasTwo (place note turn m).out
place-two note turn m h = by_place (nat_eq h.to m) refl
  where
    by_place : (b : Bool) → nat_eq h.to m ≡ b → HasTwo (place note turn m).out
    by_place true here =
        let same : h.to ≡ m = eqb-true h.to m here in
        let at : note_to turn.out m ≡ Some h.packet = subst (λ k. note_to turn.out k ≡ Some h.packet) same h.there in
        record {
          to = m;
          packet = packed (packet_of (note_to turn.out m)) note;
          there = with_note-there turn.out m (packed (packet_of (note_to turn.out m)) note) (is-there turn.out m h.packet at);
          two = subst (λ o. has_two (packed (packet_of o) note).notes ≡ true) (sym at) (put-two h.packet.notes note h.two);
        }
    by_place false apart = record {
      to = h.to;
      packet = h.packet;
      there = with_note-others turn.out m (packed (packet_of (note_to turn.out m)) note) h.to (eqb-false h.to m apart) ∙ h.there;
      two = h.two;
    }

-- a turn with packets is one with notes, or some packet has a second note, which took the place of the first among single notes
abbrev IsKept : Stepped State Packet → Stepped State Note → Type 0
IsKept turn notes = (turn ≡ in_packets notes) ⊎ (HasTwo turn.out × (notes.state.replaced ≡ true))

-- what is done with packets follows what is done with notes
pub record Follows (f : Stepped State Packet → Stepped State Packet) (g : Stepped State Note → Stepped State Note) : Type 0 where
  pub kept : (notes : Stepped State Note) → IsKept (f (in_packets notes)) (g notes)
  pub two : (turn : Stepped State Packet) → HasTwo turn.out → HasTwo (f turn).out
  pub replaced : (notes : Stepped State Note) → notes.state.replaced ≡ true → (g notes).state.replaced ≡ true

follow : (f : Stepped State Packet → Stepped State Packet) (g : Stepped State Note → Stepped State Note) → Follows f g
    → (turn : Stepped State Packet) (notes : Stepped State Note) → IsKept turn notes → IsKept (f turn) (g notes)
follow f g follows turn notes (inl same) = subst (λ x. IsKept (f x) (g notes)) (sym same) (follows.kept notes)
follow f g follows turn notes (inr two) = inr (follows.two turn two.0, follows.replaced notes two.1)

-- a fold over items follows one over the same items, seen otherwise
follow-fold : {A B : Type 0} (h : A → B) (f : Stepped State Packet → B → Stepped State Packet) (g : Stepped State Note → A → Stepped State Note)
    → ((x : A) → Follows (λ turn. f turn (h x)) (λ notes. g notes x)) → (xs : List A) (turn : Stepped State Packet) (notes : Stepped State Note)
    → IsKept turn notes → IsKept (fold f turn (map h xs)) (fold g notes xs)
follow-fold h f g each [] turn notes kept = kept
follow-fold h f g each (x ∷ xs) turn notes kept =
    follow-fold h f g each xs (f turn (h x)) (g notes x) (follow (λ turn. f turn (h x)) (λ notes. g notes x) (each x) turn notes kept)

map-same : {A : Type 0} (xs : List A) → map (λ x. x) xs ≡ xs
map-same [] = refl
map-same (x ∷ xs) = ap (λ ys. x ∷ ys) (map-same xs)

fold-follows : {A : Type 0} (f : Stepped State Packet → A → Stepped State Packet) (g : Stepped State Note → A → Stepped State Note)
    → ((x : A) → Follows (λ turn. f turn x) (λ notes. g notes x)) → (xs : List A) → Follows (λ turn. fold f turn xs) (λ notes. fold g notes xs)
fold-follows f g each xs = record {
  kept = λ notes. subst (λ ys. IsKept (fold f (in_packets notes) ys) (fold g notes xs)) (map-same xs)
      (follow-fold (λ x. x) f g each xs (in_packets notes) notes (inl refl));
  two = λ turn two. fold-keeps (λ (x : Stepped State Packet). HasTwo x.out) f (λ turn x. (each x).two turn) turn xs two;
  replaced = λ notes so. fold-keeps (λ (x : Stepped State Note). x.state.replaced ≡ true) g (λ notes x. (each x).replaced notes) notes xs so;
}

cond-follows : (b : Bool) (f : Stepped State Packet → Stepped State Packet) (g : Stepped State Note → Stepped State Note) → Follows f g
    → Follows (λ turn. cond b (f turn) turn) (λ notes. cond b (g notes) notes)
cond-follows true f g follows = record {
  kept = λ notes. follows.kept notes;
  two = λ turn two. follows.two turn two;
  replaced = λ notes so. follows.replaced notes so;
}
cond-follows false f g follows = record { kept = λ notes. inl refl; two = λ turn two. two; replaced = λ notes so. so }

choice-follows : (b : Bool) (f h : Stepped State Packet → Stepped State Packet) (g k : Stepped State Note → Stepped State Note) → Follows f g → Follows h k
    → Follows (λ turn. cond b (f turn) (h turn)) (λ notes. cond b (g notes) (k notes))
choice-follows true f h g k this that = record {
  kept = λ notes. this.kept notes;
  two = λ turn two. this.two turn two;
  replaced = λ notes so. this.replaced notes so;
}
choice-follows false f h g k this that = record {
  kept = λ notes. that.kept notes;
  two = λ turn two. that.two turn two;
  replaced = λ notes so. that.replaced notes so;
}

or-left : (b c : Bool) → b ≡ true → (b || c) ≡ true
or-left true c so = refl
or-left false c so = absurd (cc)

or-right : (b c : Bool) → c ≡ true → (b || c) ≡ true
or-right true c so = refl
or-right false c so = so

-- notes of two forms aren't the same
apart-forms : (x y : Note) → nat_eq x.form y.form ≡ false → not (same_note x y) ≡ true
apart-forms x y apart = ap (λ b. not (b && same_numbers x.fields y.fields)) apart

-- a note that is put: into no packet, or into that of one note
module _ (note : Note) (notes : Stepped State Note) (m : ℕ) where
  abbrev placed_by : Option Note → Stepped State Note
  placed_by there = record {
    state = record {
      values = notes.state.values;
      clamped = notes.state.clamped;
      replaced = notes.state.replaced || singles.is_another there note;
    };
    out = with_note notes.out m note;
  }

  abbrev put_second : Note → ℕ → Stepped State Packet
  put_second old k = record {
    state = record {
      values = notes.state.values;
      clamped = notes.state.clamped;
      replaced = notes.state.replaced || is_lost (slice_get (single old).notes k) note;
    };
    out = with_note (out_in_packets notes.out) m (record { notes = slice_set (single old).notes k (Some note) });
  }

  second : (old : Note) → note_to notes.out m ≡ Some old → (b : Bool) → nat_eq old.form note.form ≡ b
      → IsKept (put_second old (cond b 0 (suc 0))) (placed_by (Some old))
  second old there true same = inl (ap (λ out. let made : Stepped State Packet = record { state = (placed_by (Some old)).state; out = out } in made)
      (with_note-packets notes.out m note))
  second old there false apart =
      let both : Packet = record { notes = Some old ∷ Some note ∷ None ∷ None ∷ [] } in
      let is : note_to (out_in_packets notes.out) m ≡ Some (single old) = note_to-packets notes.out m ∙ ap (option_map single) there in
      let two : HasTwo (with_note (out_in_packets notes.out) m both) = record {
        to = m;
        packet = both;
        there = with_note-there (out_in_packets notes.out) m both (is-there (out_in_packets notes.out) m (single old) is);
        two = refl;
      } in
      inr (two, or-right notes.state.replaced (not (same_note old note)) (apart-forms old note apart))

  placed : (there : Option Note) → note_to notes.out m ≡ there
      → IsKept (place_in note (in_packets notes) m (packet_of (option_map single there))) (placed_by there)
  placed None is = inl (ap (λ out. let made : Stepped State Packet = record { state = (placed_by None).state; out = out } in made)
      (with_note-packets notes.out m note))
  placed (Some old) is = second old is (nat_eq old.form note.form) refl

  place-kept : IsKept (place note (in_packets notes) m) (singles.place note notes m)
  place-kept =
      subst (λ there. IsKept (place_in note (in_packets notes) m (packet_of there)) (singles.place note notes m)) (sym (note_to-packets notes.out m))
      (placed (note_to notes.out m) refl)

place-follows : (note : Note) (m : ℕ) → Follows (λ turn. place note turn m) (λ notes. singles.place note notes m)
place-follows note m = record {
  kept = λ notes. place-kept note notes m;
  two = λ turn two. place-two note turn m two;
  replaced = λ notes so. or-left notes.state.replaced (singles.is_another (note_to notes.out m) note) so;
}

-- that a note was replaced is remembered, whatever is set
cond-replaced : (b : Bool) (one other : State) → one.replaced ≡ true → other.replaced ≡ true → (cond b one other).replaced ≡ true
cond-replaced true one other this that = this
cond-replaced false one other this that = that

module _ (d : Definition) (at : Moment) where
  field-replaced : (draft : Draft) (k : ℕ) (kind : Option Kind) (e : Term) → (fill_as d at draft k kind e).state.replaced ≡ draft.state.replaced
  field-replaced draft k None e = refl
  field-replaced draft k (Some kind) e = refl

  fill-replaced : (kinds : List Kind) (draft : Draft) (k : ℕ) (es : List Term) → (fill d at kinds draft k es).state.replaced ≡ draft.state.replaced
  fill-replaced kinds draft k [] = refl
  fill-replaced kinds draft k (e ∷ es) =
      fill-replaced kinds (fill_as d at draft k (slice_get kinds k) e) (k + 1) es ∙ field-replaced draft k (slice_get kinds k) e

  draft-replaced : (state : State) (x : Send) → (drafted d at state x).state.replaced ≡ state.replaced
  draft-replaced state x = fill-replaced (kinds_of (slice_get d.notes x.form)) (record { state = state; fields = replicate 7 0 }) 0 x.fields

  variable-replaced : (state : State) (i : ℕ) (found : Option Variable) (e : Term) → state.replaced ≡ true
      → (set_variable d at state i found e).replaced ≡ true
  variable-replaced state i None e so = so
  variable-replaced state i (Some x) e so = so

  found-replaced : (state : State) (kind : Kind) (e : Term) (place : ℕ) (cell : Option ℕ) → state.replaced ≡ true
      → (set_found d at state kind e place cell).replaced ≡ true
  found-replaced state kind e place None so = so
  found-replaced state kind e place (Some i) so = so

  cell-replaced : (t : Table) (found : Option Variable) (e : Term) (state : State) (place : ℕ) → state.replaced ≡ true
      → (set_cell d at t found e state place).replaced ≡ true
  cell-replaced t None e state place so = so
  cell-replaced t (Some x) e state place so = found-replaced state x.kind e place (cell_at at.nodes t place) so

  member-replaced : (set : ℕ) (t : Table) (found : Option Variable) (e : Term) (state : State) (n : ℕ) → state.replaced ≡ true
      → (set_member d at set t found e state n).replaced ≡ true
  member-replaced set t found e state n so =
      cond-replaced (has set n) (set_cell d at t found e state n) state (cell-replaced t found e state n so) so

  cells-replaced : (set : ℕ) (t : Table) (found : Option Variable) (e : Term) (state : State) → state.replaced ≡ true
      → (set_each d at set t found e state).replaced ≡ true
  cells-replaced set t found e state so =
      fold-keeps (λ (x : State). x.replaced ≡ true) (set_member d at set t found e) (member-replaced set t found e) state (range_with_len 0 at.nodes) so

  assigned-replaced : (state : State) (target : Target) (e : Term) → state.replaced ≡ true → (assign_to d at state target e).replaced ≡ true
  assigned-replaced state (targets.Variable i) e so = variable-replaced state i (slice_get d.variables i) e so
  assigned-replaced state (targets.Cell t place) e so = cell-replaced t (slice_get d.variables t.of) e state (value_of d at state place) so
  assigned-replaced state (targets.Cells t places) e so = cells-replaced (value_of d at state places) t (slice_get d.variables t.of) e state so

  sets-replaced : (sets : List Assignment) (state : State) → state.replaced ≡ true → (fold (assign d at) state sets).replaced ≡ true
  sets-replaced sets state so =
      fold-keeps (λ (x : State). x.replaced ≡ true) (assign d at) (λ state a so. assigned-replaced state a.target a.value so) state sets so

module _ (d : Definition) (at : Moment) where
  put-follows : (set : ℕ) (note : Note) (m : ℕ) → Follows (λ turn. put at set note turn m) (λ notes. singles.put at set note notes m)
  put-follows set note m =
      cond-follows (is_receiver at set m) (λ turn. place note turn m) (λ notes. singles.place note notes m) (place-follows note m)

  put_all-follows : (set : ℕ) (note : Note) → Follows (put_all at set note) (singles.put_all at set note)
  put_all-follows set note = fold-follows (put at set note) (singles.put at set note) (put-follows set note) (range_with_len 0 at.nodes)

  -- the draft is that of the state
  draft-follows : (state : State) (x : Send)
      → Follows (put_all at (value_of d at (drafted d at state x).state x.to) (record { form = x.form; fields = (drafted d at state x).fields }))
      (singles.put_all at (value_of d at (drafted d at state x).state x.to) (record { form = x.form; fields = (drafted d at state x).fields }))
  draft-follows state x = put_all-follows (value_of d at (drafted d at state x).state x.to) (record { form = x.form; fields = (drafted d at state x).fields })

  alike-follow : (x : Send)
      → Follows (λ turn. put_draft d at turn x (drafted d at turn.state x)) (λ notes. singles.put_draft d at notes x (drafted d at notes.state x))
  alike-follow x = record {
    kept = λ notes. (draft-follows notes.state x).kept (record { state = (drafted d at notes.state x).state; out = notes.out });
    two = λ turn two. (draft-follows turn.state x).two (record { state = (drafted d at turn.state x).state; out = turn.out }) two;
    replaced = λ notes so.
        (draft-follows notes.state x).replaced (record { state = (drafted d at notes.state x).state; out = notes.out })
        (draft-replaced d at notes.state x ∙ so);
  }

  -- a receiver's own draft
  own-follows : (state : State) (x : Send) (m : ℕ)
      → Follows (λ turn. place (record { form = x.form; fields = (drafted d (with_it at m) state x).fields }) turn m)
      (λ notes. singles.place (record { form = x.form; fields = (drafted d (with_it at m) state x).fields }) notes m)
  own-follows state x m = place-follows (record { form = x.form; fields = (drafted d (with_it at m) state x).fields }) m

  placed-follow : (x : Send) (m : ℕ)
      → Follows (λ turn. place_draft d at turn x m (drafted d (with_it at m) turn.state x))
      (λ notes. singles.place_draft d at notes x m (drafted d (with_it at m) notes.state x))
  placed-follow x m = record {
    kept = λ notes. (own-follows notes.state x m).kept (record { state = (drafted d (with_it at m) notes.state x).state; out = notes.out });
    two = λ turn two. (own-follows turn.state x m).two (record { state = (drafted d (with_it at m) turn.state x).state; out = turn.out }) two;
    replaced = λ notes so.
        (own-follows notes.state x m).replaced (record { state = (drafted d (with_it at m) notes.state x).state; out = notes.out })
        (draft-replaced d (with_it at m) notes.state x ∙ so);
  }

  one-follows : (set : ℕ) (x : Send) (m : ℕ) → Follows (λ turn. send_one d at set x turn m) (λ notes. singles.send_one d at set x notes m)
  one-follows set x m =
      cond-follows (is_receiver at set m) (λ turn. place_draft d at turn x m (drafted d (with_it at m) turn.state x))
      (λ notes. singles.place_draft d at notes x m (drafted d (with_it at m) notes.state x)) (placed-follow x m)

  each-follows : (set : ℕ) (x : Send) → Follows (send_each d at set x) (singles.send_each d at set x)
  each-follows set x = fold-follows (send_one d at set x) (singles.send_one d at set x) (one-follows set x) (range_with_len 0 at.nodes)

  -- the set of nodes is that of the state
  own-follow : (x : Send)
      → Follows (λ turn. send_each d at (value_of d at turn.state x.to) x turn) (λ notes. singles.send_each d at (value_of d at notes.state x.to) x notes)
  own-follow x = record {
    kept = λ notes. (each-follows (value_of d at notes.state x.to) x).kept notes;
    two = λ turn two. (each-follows (value_of d at turn.state x.to) x).two turn two;
    replaced = λ notes so. (each-follows (value_of d at notes.state x.to) x).replaced notes so;
  }

  send-follows : (x : Send) → Follows (λ turn. send d at turn x) (λ notes. singles.send d at notes x)
  send-follows x =
      choice-follows x.each (λ turn. send_each d at (value_of d at turn.state x.to) x turn) (λ turn. put_draft d at turn x (drafted d at turn.state x))
      (λ notes. singles.send_each d at (value_of d at notes.state x.to) x notes)
      (λ notes. singles.put_draft d at notes x (drafted d at notes.state x)) (own-follow x) (alike-follow x)

  sends-follow : (xs : List Send) → Follows (λ turn. fold (send d at) turn xs) (λ notes. fold (singles.send d at) notes xs)
  sends-follow xs = fold-follows (send d at) (singles.send d at) send-follows xs

  found-follows : (found : Option Rule) → Follows (λ turn. do_found d at turn found) (λ notes. singles.do_found d at notes found)
  found-follows None = record { kept = λ notes. inl refl; two = λ turn two. two; replaced = λ notes so. so }
  found-follows (Some rule) = record {
    kept = λ notes. (sends-follow rule.sends).kept (record { state = fold (assign d at) notes.state rule.sets; out = notes.out });
    two = λ turn two. (sends-follow rule.sends).two (record { state = fold (assign d at) turn.state rule.sets; out = turn.out }) two;
    replaced = λ notes so.
        (sends-follow rule.sends).replaced (record { state = fold (assign d at) notes.state rule.sets; out = notes.out })
        (sets-replaced d at rule.sets notes.state so);
  }

  taken-follows : (rules : List Rule) → Follows (λ turn. take_first d at turn rules) (λ notes. singles.take_first d at notes rules)
  taken-follows rules = record {
    kept = λ notes. (found-follows (first_true d at notes.state rules)).kept notes;
    two = λ turn two. (found-follows (first_true d at turn.state rules)).two turn two;
    replaced = λ notes so. (found-follows (first_true d at notes.state rules)).replaced notes so;
  }

  pass-follows : (event : Event) (chain : Chain) → Follows (λ turn. pass d at event turn chain) (λ notes. singles.pass d at event notes chain)
  pass-follows event chain =
      cond-follows (is_passed at.nodes at.me (given_here at) event chain) (λ turn. take_first d at turn chain.rules)
      (λ notes. singles.take_first d at notes chain.rules) (taken-follows chain.rules)

  pub act-follows : (event : Event) → Follows (act d at event) (singles.act d at event)
  unfolding act singles.act
  act-follows event = fold-follows (pass d at event) (singles.pass d at event) (pass-follows event) d.chains

-- each packet has one note, or no single note took another one's place
abbrev pub IsClear : Stepped State Packet → Stepped State Note → Type 0
IsClear turn notes = AreSingles turn.out ⊎ (notes.state.replaced ≡ false)

module _ (d : Definition) (nodes : ℕ) (given : List (List ℕ)) (n t : ℕ) where
  alone-follows : (event : Event) → Follows (act_alone d nodes given n t event) (singles.act_alone d nodes given n t event)
  alone-follows event = act-follows d (moment nodes given n t 0 no_fields) event

  hear-follows : (x : Letter Note)
      → Follows (λ turn. hear_of d nodes given n t turn (letter_in_packet x)) (λ notes. singles.hear_of d nodes given n t notes x)
  hear-follows x = act-follows d (moment nodes given n t x.from x.note.fields) (events.Note x.note.form)

  step-kept : (s : State) (inbox : List (Letter Note))
      → IsKept (step_of d nodes given n t s (map letter_in_packet inbox)) (singles.step_of d nodes given n t s inbox)
  step-kept s inbox =
      follow (act_alone d nodes given n t events.End) (singles.act_alone d nodes given n t events.End) (alone-follows events.End) _ _
      (follow-fold letter_in_packet (hear_of d nodes given n t) (singles.hear_of d nodes given n t) hear-follows inbox _ _
      ((alone-follows events.Begin).kept (singles.opened s)))

  clear-kept : (turn : Stepped State Packet) (notes : Stepped State Note) → IsClear turn notes → IsKept turn notes → turn ≡ in_packets notes
  clear-kept turn notes clear (inl same) = same
  clear-kept turn notes (inl are) (inr two) = absurd (none-two turn.out are two.0)
  clear-kept turn notes (inr kept) (inr two) = absurd (both_ways notes.state.replaced kept two.1)

  pub step-clear : (s : State) (inbox : List (Letter Note))
      → IsClear (step_of d nodes given n t s (map letter_in_packet inbox)) (singles.step_of d nodes given n t s inbox)
      → step_of d nodes given n t s (map letter_in_packet inbox) ≡ in_packets (singles.step_of d nodes given n t s inbox)
  step-clear s inbox clear = clear-kept _ _ clear (step-kept s inbox)

  pub step-single : (s : State) (inbox : List (Letter Note)) → AreSingles (step_of d nodes given n t s (map letter_in_packet inbox)).out
      → step_of d nodes given n t s (map letter_in_packet inbox) ≡ in_packets (singles.step_of d nodes given n t s inbox)
  step-single s inbox are = step-clear s inbox (inl are)
