-- No node of a protocol of rules sends a note to itself, or to a number that isn't a node. A reader of contracts may pass by.
use Rattle.std.proofs.Common.{◌≡◌, ℕ, zero, suc, ◌+◌, ◌<◌, ◌≤◌, Bool, true, false, cond, not, List, [], ◌∷◌, nat_eq, refl, sym, ◌∙◌, arith, inl, inr}
use Rattle.std.specs.Prelude.{◌⊎◌, ◌≢◌, None, Option, Some}
use Rattle.std.specs.List.{fold, range_with_len}
use Rattle.std.proofs.lemmas.Bool.{and_parts, eq-eqb, both_ways, not-true}
use Rattle.lf_sim.specs.declared.letter.Letter.{Letter}
use Rattle.lf_sim.specs.declared.out.Stepped.{Stepped}
use Rattle.lf_sim.specs.Outs.{note_to}
use Rattle.lf_sim.specs.OutsLemmas.{note_to-nothing, with_note-others}
use Rattle.lf_rules.specs.declared.rule.Event.{Event}
use Rattle.lf_rules.specs.declared.rule.Event.TheVariants as events
use Rattle.lf_rules.specs.declared.rule.Send.{Send}
use Rattle.lf_rules.specs.declared.rule.Rule.{Rule}
use Rattle.lf_rules.specs.declared.rule.Chain.{Chain}
use Rattle.lf_rules.specs.declared.definition.Definition.{Definition}
use Rattle.lf_rule_machine.specs.Moments.{Moment, with_it, given_here}
use Rattle.lf_rule_machine.specs.Instances.{Instance}
use Rattle.lf_rule_machine.specs.declared.state.State.{State}
use Rattle.lf_rule_machine.specs.declared.state.Note.{Note}
use Rattle.lf_rule_machine.specs.declared.state.Packet.{Packet}
use Rattle.lf_rule_machine.specs.Sets.{has}
use Rattle.lf_rule_machine.specs.States.{packed, packet_of}
use Rattle.lf_rule_machine.specs.Values.{value_of}
use Rattle.lf_rule_machine.specs.Events.{is_passed, place, is_receiver, put, put_all, drafted, put_draft, place_draft, send_one, send_each, send, do_rule}
use Rattle.lf_rule_machine.specs.Events.{assign, first_true, do_found, take_first, pass, act}
use Rattle.lf_rule_machine.specs.Machines.{moment, hear_note, hear_of, begin_of, end_of, step_of, no_fields, opened}
use Rattle.lf_rule_machine.specs.Ruleds.{rules_of}

-- what each step of a fold keeps, the fold keeps
pub fold-keeps : {A B : Type 0} (P : B → Type 0) (f : B → A → B) → ((b : B) (x : A) → P b → P (f b x)) → (b : B) (xs : List A) → P b → P (fold f b xs)
fold-keeps P f keeps b [] h = h
fold-keeps P f keeps b (x ∷ xs) h = fold-keeps P f keeps (f b x) xs (keeps b x h)

range-keeps : {B : Type 0} (P : B → Type 0) (f : B → ℕ → B) (a n : ℕ) → ((b : B) (m : ℕ) → m < a + n → P b → P (f b m)) → (b : B) → P b
    → P (fold f b (range_with_len a n))
range-keeps P f a zero keeps b h = h
range-keeps P f a (suc n) keeps b h =
    range-keeps P f (a + 1) n (λ c m low. keeps c m (omega arith)) (f b a) (keeps b a (omega arith) h)

-- no note goes to this node, or past the nodes
pub record IsQuiet (nodes me : ℕ) (turn : Stepped State Packet) : Type 0 where
  pub none : (to : ℕ) → (to ≡ me) ⊎ (nodes ≤ to) → note_to turn.out to ≡ None

pub cond-keeps : {A : Type 0} (P : A → Type 0) (b : Bool) (x y : A) → (b ≡ true → P x) → P y → P (cond b x y)
cond-keeps P true x y h k = h refl
cond-keeps P false x y h k = k

module _ (d : Definition) (at : Moment) where
  abbrev IsStill : Stepped State Packet → Type 0
  IsStill = IsQuiet at.nodes at.me

  place-still : (set : ℕ) (note : Note) (turn : Stepped State Packet) (m : ℕ) → m < at.nodes → is_receiver at set m ≡ true → IsStill turn
      → IsStill (place note turn m)
  place-still set note turn m low taken quiet = record {
    none = λ to nobody.
        let other : to ≢ m = apart to nobody (and_parts (has set m) (not (nat_eq m at.me)) taken).1 in
        with_note-others turn.out m (packed (packet_of (note_to turn.out m)) note) to other ∙ quiet.none to nobody;
  }
    where
      apart : (to : ℕ) → (to ≡ at.me) ⊎ (at.nodes ≤ to) → not (nat_eq m at.me) ≡ true → to ≢ m
      apart to (inl me) away same = both_ways (nat_eq m at.me) (not-true (nat_eq m at.me) away) (eq-eqb m at.me (sym same ∙ me))
      apart to (inr far) away same = omega (arith, same, far)

  put-still : (set : ℕ) (note : Note) (turn : Stepped State Packet) (m : ℕ) → m < at.nodes → IsStill turn → IsStill (put at set note turn m)
  put-still set note turn m low quiet =
      cond-keeps IsStill (is_receiver at set m) (place note turn m) turn (λ taken. place-still set note turn m low taken quiet) quiet

  put_all-still : (set : ℕ) (note : Note) (turn : Stepped State Packet) → IsStill turn → IsStill (put_all at set note turn)
  put_all-still set note turn quiet = range-keeps IsStill (put at set note) 0 at.nodes (λ b m low h. put-still set note b m (omega arith) h) turn quiet

  one-still : (set : ℕ) (x : Send) (turn : Stepped State Packet) (m : ℕ) → m < at.nodes → IsStill turn → IsStill (send_one d at set x turn m)
  one-still set x turn m low quiet =
      let draft = drafted d (with_it at m) turn.state x in
      cond-keeps IsStill (is_receiver at set m) (place_draft d at turn x m draft) turn
      (λ taken. place-still set (record { form = x.form; fields = draft.fields }) (record { state = draft.state; out = turn.out }) m low taken
      (record { none = quiet.none })) quiet

  send-still : (turn : Stepped State Packet) (x : Send) → IsStill turn → IsStill (send d at turn x)
  send-still turn x quiet =
      let draft = drafted d at turn.state x in
      let set = value_of d at turn.state x.to in
      cond-keeps IsStill x.each (send_each d at set x turn) (put_draft d at turn x draft)
      (λ _. range-keeps IsStill (send_one d at set x) 0 at.nodes (λ b m low h. one-still set x b m (omega arith) h) turn quiet)
      (put_all-still (value_of d at draft.state x.to) (record { form = x.form; fields = draft.fields }) (record { state = draft.state; out = turn.out })
      (record { none = quiet.none }))

  rule-still : (turn : Stepped State Packet) (rule : Rule) → IsStill turn → IsStill (do_rule d at turn rule)
  rule-still turn rule quiet =
      fold-keeps IsStill (send d at) send-still (record { state = fold (assign d at) turn.state rule.sets; out = turn.out }) rule.sends
      (record { none = quiet.none })

  found-still : (turn : Stepped State Packet) (found : Option Rule) → IsStill turn → IsStill (do_found d at turn found)
  found-still turn None quiet = quiet
  found-still turn (Some rule) quiet = rule-still turn rule quiet

  pass-still : (event : Event) (turn : Stepped State Packet) (chain : Chain) → IsStill turn → IsStill (pass d at event turn chain)
  pass-still event turn chain quiet =
      cond-keeps IsStill (is_passed at.nodes at.me (given_here at) event chain) (take_first d at turn chain.rules) turn
      (λ _. found-still turn (first_true d at turn.state chain.rules) quiet) quiet

  act-still : (event : Event) (turn : Stepped State Packet) → IsStill turn → IsStill (act d at event turn)
  unfolding act
  act-still event turn quiet = fold-keeps IsStill (pass d at event) (pass-still event) turn d.chains quiet

module _ (d : Definition) (nodes : ℕ) (given : List (List ℕ)) (n t : ℕ) where
  abbrev pub IsCalm : Stepped State Packet → Type 0
  IsCalm = IsQuiet nodes n

  opened-calm : (s : State) → IsCalm (opened s)
  opened-calm s = record { none = λ to nobody. note_to-nothing {Note = Packet} to }

  pub begun-calm : (s : State) → IsCalm (begin_of d nodes given n t s)
  begun-calm s = act-still d (moment nodes given n t 0 no_fields) events.Begin (opened s) (opened-calm s)

  noted-calm : (from : ℕ) (turn : Stepped State Packet) (note : Option Note) → IsCalm turn → IsCalm (hear_note d nodes given n t from turn note)
  noted-calm from turn None calm = calm
  noted-calm from turn (Some note) calm = act-still d (moment nodes given n t from note.fields) (events.Note note.form) turn calm

  pub heard-calm : (turn : Stepped State Packet) (letter : Letter Packet) → IsCalm turn → IsCalm (hear_of d nodes given n t turn letter)
  heard-calm turn letter calm = fold-keeps IsCalm (hear_note d nodes given n t letter.from) (noted-calm letter.from) turn letter.note.notes calm

  pub ended-calm : (turn : Stepped State Packet) → IsCalm turn → IsCalm (end_of d nodes given n t turn)
  ended-calm turn calm = act-still d (moment nodes given n t 0 no_fields) events.End turn calm

  stepped-calm : (s : State) (inbox : List (Letter Packet)) → IsCalm (step_of d nodes given n t s inbox)
  stepped-calm s inbox =
      ended-calm _
      (fold-keeps IsCalm (hear_of d nodes given n t) heard-calm (begin_of d nodes given n t s) inbox (begun-calm s))

pub rules_of-silent : (m : Instance) (n t to : ℕ) (s : State) (inbox : List (Letter Packet)) → (to ≡ n) ⊎ ((rules_of m).nodes ≤ to)
    → note_to ((rules_of m).step n t s inbox).out to ≡ None
rules_of-silent m n t to s inbox nobody = (stepped-calm m.definition m.nodes m.given n t s inbox).none to nobody
