-- Where there is but one form of notes, each packet that is sent has one note.
use Rattle.std.proofs.Common.{◌≡◌, ℕ, zero, suc, ◌+◌, ◌≤◌, Bool, true, false, cond, List, [], ◌∷◌, length, refl, sym, ap, ◌∙◌, subst, arith}
use Rattle.std.proofs.Common.{eq-eqb, add-one}
use Rattle.std.specs.Prelude.{nat_eq, Option, None, Some, slice_get}
use Rattle.std.specs.List.{fold, list_all, range_with_len}
use Rattle.std.proofs.lemmas.Bool.{and_parts, eqb-true, eqb-false}
use Rattle.lf_faults.specs.declared.fault.Parts.{Parts}
use Rattle.lf_sim.specs.declared.letter.Letter.{Letter}
use Rattle.lf_sim.specs.declared.out.Out.{Out}
use Rattle.lf_sim.specs.declared.out.Stepped.{Stepped}
use Rattle.lf_sim.specs.Machines.{Rules}
use Rattle.lf_sim.specs.Outs.{note_to, nothing, with_note}
use Rattle.lf_sim.specs.OutsLemmas.{note_to-nothing, with_note-there, with_note-others}
use Rattle.lf_sim.specs.Runs.{World, is_up, before_step, did, view, inbox}
use Rattle.lf_sim.proofs.Laws.{did-zero, did-up, did-down}
use Rattle.lf_rules.specs.Terms.{Term}
use Rattle.lf_rules.specs.declared.rule.Event.{Event}
use Rattle.lf_rules.specs.declared.rule.Event.TheVariants as events
use Rattle.lf_rules.specs.declared.rule.Send.{Send}
use Rattle.lf_rules.specs.declared.rule.Rule.{Rule}
use Rattle.lf_rules.specs.declared.rule.Chain.{Chain}
use Rattle.lf_rules.specs.declared.sort.Scope.{Scope}
use Rattle.lf_rules.specs.declared.definition.NoteForm.{NoteForm}
use Rattle.lf_rules.specs.declared.definition.Definition.{Definition}
use Rattle.lf_rules.specs.Forms.{is_well_formed, is_chain, is_rule_in, is_send, are_sent, scope_of, sends_of}
use Rattle.lf_rule_machine.specs.Moments.{Moment, with_it, given_here}
use Rattle.lf_rule_machine.specs.Instances.{Instance}
use Rattle.lf_rule_machine.specs.declared.state.State.{State}
use Rattle.lf_rule_machine.specs.declared.state.Note.{Note}
use Rattle.lf_rule_machine.specs.declared.state.Packet.{Packet}
use Rattle.lf_rule_machine.specs.declared.fact.Fact.{Fact}
use Rattle.lf_rule_machine.specs.Sets.{is_true}
use Rattle.lf_rule_machine.specs.States.{packed, packet_of}
use Rattle.lf_rule_machine.specs.Values.{value_of}
use Rattle.lf_rule_machine.specs.Events.{is_passed, is_receiver, place, put, put_all, Draft, assign, drafted, put_draft, place_draft}
use Rattle.lf_rule_machine.specs.Events.{send_one, send_each, send, do_rule, first_true, do_found, take_first, pass, act}
use Rattle.lf_rule_machine.specs.Machines.{moment, no_fields, opened, begin_of, hear_note, hear_of, step_of}
use Rattle.lf_rule_machine.specs.RuledLemmas.{fold-keeps}
use Rattle.lf_rule_machine.specs.Ruleds.{rules_of}
use Rattle.lf_rule_machine.specs.SingleRuns.{single, SendsSingles, IsSingleRun}
use Rattle.lf_rule_machine.proofs.IndexesLemmas.{chains-formed}
use Rattle.lf_rule_machine.proofs.FormedLemmas.{rule-sends, chain-rules, send-form}
use Rattle.lf_rule_machine.proofs.SinglesLemmas.{is-there}

-- a packet has one note, which is of the first form
abbrev IsPlain : Packet → Type 0
IsPlain p = (x : Note) × (p ≡ single x) × (x.form ≡ 0)

abbrev ArePlain : Out Packet → Type 0
ArePlain out = (m : ℕ) (p : Packet) → note_to out m ≡ Some p → IsPlain p

onto : (x note : Note) → x.form ≡ note.form → packed (single x) note ≡ single note
onto x note same = rw (eq-eqb x.form note.form same) refl

packed-plain : (there : Option Packet) (note : Note) → note.form ≡ 0 → ((p : Packet) → there ≡ Some p → IsPlain p)
    → packed (packet_of there) note ≡ single note
packed-plain None note first plain = refl
packed-plain (Some p) note first plain =
    let one : IsPlain p = plain p refl in
    ap (λ q. packed q note) one.1 ∙ onto one.0 note (one.2 ∙ sym first)

module _ (note : Note) (first : note.form ≡ 0) (turn : Stepped State Packet) (m : ℕ) (plain : ArePlain turn.out) where
  abbrev made : Packet
  made = packed (packet_of (note_to turn.out m)) note

  placed-by : (to : ℕ) (p : Packet) (b : Bool) → nat_eq to m ≡ b → note_to (with_note turn.out m made) to ≡ Some p → IsPlain p
  placed-by to p true here there =
      let at : note_to (with_note turn.out m made) m ≡ Some p =
      subst (λ k. note_to (with_note turn.out m made) k ≡ Some p) (eqb-true to m here) there in
      let put_there : Some made ≡ Some p = sym (with_note-there turn.out m made (is-there (with_note turn.out m made) m p at)) ∙ at in
      let same : made ≡ p = cc in
      (note, sym same ∙ packed-plain (note_to turn.out m) note first (plain m), first)
  placed-by to p false apart there = plain to p (sym (with_note-others turn.out m made to (eqb-false to m apart)) ∙ there)

  place-plain : ArePlain (place note turn m).out
  place-plain to p there = placed-by to p (nat_eq to m) refl there

cond-plain : (b : Bool) (one other : Stepped State Packet) → (b ≡ true → ArePlain one.out) → ArePlain other.out → ArePlain (cond b one other).out
cond-plain true one other this that = this refl
cond-plain false one other this that = that

-- what each step of a fold keeps, where its item passes a test
fold-all : {A : Type 0} (f : Stepped State Packet → A → Stepped State Packet) (g : A → Bool)
    → ((turn : Stepped State Packet) (x : A) → g x ≡ true → ArePlain turn.out → ArePlain (f turn x).out)
    → (xs : List A) → list_all g xs ≡ true → (turn : Stepped State Packet) → ArePlain turn.out → ArePlain (fold f turn xs).out
fold-all f g keeps [] all turn plain = plain
fold-all f g keeps (x ∷ xs) all turn plain =
    let parts = and_parts (g x) (list_all g xs) all in
    fold-all f g keeps xs parts.1 (f turn x) (keeps turn x parts.0 plain)

-- a note that is sent is of a form that there is
form-found : (d : Definition) (scope : Scope) (forms : List NoteForm) (form : ℕ) (es : List Term) → length forms ≤ 1
    → are_sent d scope (slice_get forms form) es ≡ true → form ≡ 0
form-found d scope [] form es few there = absurd (cc)
form-found d scope (x ∷ xs) zero es few there = refl
form-found d scope (x ∷ []) (suc form) es few there = absurd (cc)
form-found d scope (x ∷ y ∷ xs) (suc form) es few there = absurd (omega (arith, few))

module _ (d : Definition) (few : length d.notes ≤ 1) (at : Moment) where
  put-plain : (set : ℕ) (note : Note) → note.form ≡ 0 → (turn : Stepped State Packet) (m : ℕ) → ArePlain turn.out → ArePlain (put at set note turn m).out
  put-plain set note first turn m plain =
      cond-plain (is_receiver at set m) (place note turn m) turn (λ _. place-plain note first turn m plain) plain

  put_all-plain : (set : ℕ) (note : Note) → note.form ≡ 0 → (turn : Stepped State Packet) → ArePlain turn.out → ArePlain (put_all at set note turn).out
  put_all-plain set note first turn plain =
      fold-keeps (λ (x : Stepped State Packet). ArePlain x.out) (put at set note) (put-plain set note first) turn (range_with_len 0 at.nodes) plain

  one-plain : (set : ℕ) (x : Send) → x.form ≡ 0 → (turn : Stepped State Packet) (m : ℕ) → ArePlain turn.out → ArePlain (send_one d at set x turn m).out
  one-plain set x first turn m plain =
      let draft : Draft = drafted d (with_it at m) turn.state x in
      cond-plain (is_receiver at set m) (place_draft d at turn x m draft) turn
      (λ _. place-plain (record { form = x.form; fields = draft.fields }) first (record { state = draft.state; out = turn.out }) m plain) plain

  each-plain : (set : ℕ) (x : Send) → x.form ≡ 0 → (turn : Stepped State Packet) → ArePlain turn.out → ArePlain (send_each d at set x turn).out
  each-plain set x first turn plain =
      fold-keeps (λ (x : Stepped State Packet). ArePlain x.out) (send_one d at set x) (one-plain set x first) turn (range_with_len 0 at.nodes) plain

  send-plain : (scope : Scope) (turn : Stepped State Packet) (x : Send) → is_send d scope x ≡ true → ArePlain turn.out → ArePlain (send d at turn x).out
  send-plain scope turn x formed plain =
      let draft : Draft = drafted d at turn.state x in
      let set : ℕ = value_of d at turn.state x.to in
      let first : x.form ≡ 0 = form-found d scope d.notes x.form x.fields few (send-form d scope x formed) in
      cond-plain x.each (send_each d at set x turn) (put_draft d at turn x draft) (λ _. each-plain set x first turn plain)
      (put_all-plain (value_of d at draft.state x.to) (record { form = x.form; fields = draft.fields }) first
      (record { state = draft.state; out = turn.out }) plain)

  rule-plain : (scope : Scope) (sends : ℕ) (turn : Stepped State Packet) (rule : Rule) → is_rule_in d scope sends rule ≡ true → ArePlain turn.out
      → ArePlain (do_rule d at turn rule).out
  rule-plain scope sends turn rule formed plain =
      fold-all (send d at) (is_send d scope) (send-plain scope) rule.sends (rule-sends d scope sends rule formed).1
      (record { state = fold (assign d at) turn.state rule.sets; out = turn.out }) plain

  guarded : (b : Bool) (turn : Stepped State Packet) (one other : Option Rule) → ArePlain (do_found d at turn one).out
      → ArePlain (do_found d at turn other).out → ArePlain (do_found d at turn (cond b one other)).out
  guarded true turn one other this that = this
  guarded false turn one other this that = that

  found-plain : (scope : Scope) (sends : ℕ) (turn : Stepped State Packet) (s : State) (rules : List Rule)
      → list_all (is_rule_in d scope sends) rules ≡ true → ArePlain turn.out → ArePlain (do_found d at turn (first_true d at s rules)).out
  found-plain scope sends turn s [] formed plain = plain
  found-plain scope sends turn s (rule ∷ rules) formed plain =
      let parts = and_parts (is_rule_in d scope sends rule) (list_all (is_rule_in d scope sends) rules) formed in
      guarded (is_true (value_of d at s rule.guard)) turn (Some rule) (first_true d at s rules) (rule-plain scope sends turn rule parts.0 plain)
      (found-plain scope sends turn s rules parts.1 plain)

  pass-plain : (event : Event) (turn : Stepped State Packet) (chain : Chain) → is_chain d chain ≡ true → ArePlain turn.out
      → ArePlain (pass d at event turn chain).out
  pass-plain event turn chain formed plain =
      cond-plain (is_passed at.nodes at.me (given_here at) event chain) (take_first d at turn chain.rules) turn
      (λ _. found-plain (scope_of chain.on) (sends_of chain.on) turn turn.state chain.rules (chain-rules d chain formed) plain) plain

  act-plain : is_well_formed d ≡ true → (event : Event) (turn : Stepped State Packet) → ArePlain turn.out → ArePlain (act d at event turn).out
  unfolding act
  act-plain formed event turn plain = fold-all (pass d at event) (is_chain d) (pass-plain event) d.chains (chains-formed d 0 [] formed) turn plain

nothing-plain : ArePlain (nothing {Note = Packet})
nothing-plain m p there =
    let nowhere : None ≡ Some p = sym (note_to-nothing {Note = Packet} m) ∙ there in
    absurd (cc)

module _ (d : Definition) (few : length d.notes ≤ 1) (formed : is_well_formed d ≡ true) (nodes : ℕ) (given : List (List ℕ)) (n t : ℕ) where
  noted-plain : (from : ℕ) (turn : Stepped State Packet) (note : Option Note) → ArePlain turn.out → ArePlain (hear_note d nodes given n t from turn note).out
  noted-plain from turn None plain = plain
  noted-plain from turn (Some note) plain = act-plain d few (moment nodes given n t from note.fields) formed (events.Note note.form) turn plain

  heard-plain : (turn : Stepped State Packet) (letter : Letter Packet) → ArePlain turn.out → ArePlain (hear_of d nodes given n t turn letter).out
  heard-plain turn letter plain =
      fold-keeps (λ (x : Stepped State Packet). ArePlain x.out) (hear_note d nodes given n t letter.from) (noted-plain letter.from) turn letter.note.notes plain

  step-plain : (s : State) (inbox : List (Letter Packet)) → ArePlain (step_of d nodes given n t s inbox).out
  step-plain s inbox =
      act-plain d few (moment nodes given n t 0 no_fields) formed events.End _
      (fold-keeps (λ (x : Stepped State Packet). ArePlain x.out) (hear_of d nodes given n t) heard-plain (begin_of d nodes given n t s) inbox
      (act-plain d few (moment nodes given n t 0 no_fields) formed events.Begin (opened s) nothing-plain))

ruled-plain : (m : Instance) → length m.definition.notes ≤ 1 → is_well_formed m.definition ≡ true → (rules : Rules State Packet Fact) → rules ≡ rules_of m
    → (n t : ℕ) (s : State) (mail : List (Letter Packet)) → ArePlain (rules.step n t s mail).out
ruled-plain m few formed rules ruled n t s mail =
    subst (λ (x : Rules State Packet Fact). ArePlain (x.step n t s mail).out) (sym ruled)
    (step-plain m.definition few formed m.nodes m.given n t s mail)

module _ (m : Instance) (w : World State Packet Fact) (faults : List Parts) (formed : is_well_formed m.definition ≡ true)
    (few : length m.definition.notes ≤ 1) (ruled : w.rules ≡ rules_of m) where
  did-by : (n t : ℕ) (b : Bool) → is_up w faults n (t + 1) ≡ b → ArePlain (did w faults n (t + 1)).out
  did-by n t true up =
      subst (λ (x : Stepped State Packet). ArePlain x.out) (sym (did-up w faults n t up))
      (ruled-plain m few formed w.rules ruled n (t + 1) (before_step w faults n (t + 1) (view w faults n t)) (inbox w faults n (t + 1)))
  did-by n t false down = subst (λ (x : Stepped State Packet). ArePlain x.out) (sym (did-down w faults n t down)) nothing-plain

  did-plain : (n t : ℕ) → ArePlain (did w faults n t).out
  did-plain n zero = subst (λ (x : Stepped State Packet). ArePlain x.out) (sym (did-zero w faults n)) nothing-plain
  did-plain n (suc t) = subst (λ k. ArePlain (did w faults n k).out) (add-one t) (did-by n t (is_up w faults n (t + 1)) refl)

  sends-single : SendsSingles w faults
  sends-single n to t p there =
      let plain : IsPlain p = did-plain n t to p there in
      (plain.0, plain.1)

  pub one-form : IsSingleRun m w faults
  one-form = record { formed = formed; ruled = ruled; singles = sends-single }
