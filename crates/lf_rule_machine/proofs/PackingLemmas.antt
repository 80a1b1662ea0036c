-- What a node sends another one in a step is a packet: nothing that a step does leaves anything else.
use Rattle.std.proofs.Common.{◌≡◌, ℕ, List, sym, ap, subst, ◌∙◌, inl, inr}
use Rattle.std.specs.Prelude.{Option, None, Some}
use Rattle.std.specs.List.{fold, range_with_len}
use Rattle.std.specs.Option.{unwrap_or}
use Rattle.std.proofs.lemmas.Option.{none-some}
use Rattle.std.proofs.lemmas.Bool.{cases_lt}
use Rattle.std.proofs.lemmas.Bool.Decides.{eqb_tells}
use Rattle.lf_sim.specs.declared.letter.Letter.{Letter}
use Rattle.lf_sim.specs.declared.out.Stepped.{Stepped}
use Rattle.lf_sim.specs.Outs.{note_to, with_note}
use Rattle.lf_sim.specs.OutsLemmas.{note_to-far, note_to-nothing, with_note-others, with_note-there}
use Rattle.lf_rules.specs.declared.rule.Event.{Event}
use Rattle.lf_rules.specs.declared.rule.Event.TheVariants as events
use Rattle.lf_rules.specs.declared.rule.Send.{Send}
use Rattle.lf_rules.specs.declared.rule.Rule.{Rule}
use Rattle.lf_rules.specs.declared.rule.Chain.{Chain}
use Rattle.lf_rules.specs.declared.definition.Definition.{Definition}
use Rattle.lf_rule_machine.specs.Moments.{Moment, with_it, given_here}
use Rattle.lf_rule_machine.specs.declared.state.State.{State}
use Rattle.lf_rule_machine.specs.declared.state.Note.{Note}
use Rattle.lf_rule_machine.specs.declared.state.Packet.{Packet}
use Rattle.lf_rule_machine.specs.Values.{value_of}
use Rattle.lf_rule_machine.specs.States.{packed, packet_of}
use Rattle.lf_rule_machine.specs.Events.{is_passed, place, is_receiver, put, drafted, put_draft, place_draft, send_one, send_each, send, assign}
use Rattle.lf_rule_machine.specs.Events.{first_true, do_found, take_first, pass, act}
use Rattle.lf_rule_machine.specs.Machines.{moment, hear_note, hear_of, begin_of, step_of, no_fields, opened}
use Rattle.lf_rule_machine.specs.Packets.{IsPacket}
use Rattle.lf_rule_machine.specs.RuledLemmas.{fold-keeps, cond-keeps}
use Rattle.lf_rule_machine.proofs.PacketsLemmas.{put-IsPacket}

-- all that is sent so far are packets
pub record ArePackets (turn : Stepped State Packet) : Type 0 where
  pub each : (to : ℕ) (p : Packet) → note_to turn.out to ≡ Some p → IsPacket p

module _ (d : Definition) (at : Moment) where
  place-packets : (note : Note) (turn : Stepped State Packet) (m : ℕ) → ArePackets turn → ArePackets (place note turn m)
  place-packets note turn m sent = record {
    each = λ to p is. elim (eqb_tells to m) [
      | inl same ↦ elim (cases_lt m 8) [
        | inl near ↦
            subst IsPacket (ap (λ o. unwrap_or o p)
            (sym (with_note-there turn.out m (packed (packet_of (note_to turn.out m)) note) near)
            ∙ ap (note_to (with_note turn.out m (packed (packet_of (note_to turn.out m)) note))) (sym same.1) ∙ is))
            (put-IsPacket (note_to turn.out m) note (sent.each m))
        | inr far ↦
            absurd (none-some p (sym (note_to-far (with_note turn.out m (packed (packet_of (note_to turn.out m)) note)) m far)
            ∙ ap (note_to (with_note turn.out m (packed (packet_of (note_to turn.out m)) note))) (sym same.1) ∙ is))
      ]
      | inr other ↦ sent.each to p (sym (with_note-others turn.out m (packed (packet_of (note_to turn.out m)) note) to other.1) ∙ is)
    ];
  }

  put-packets : (set : ℕ) (note : Note) (turn : Stepped State Packet) (m : ℕ) → ArePackets turn → ArePackets (put at set note turn m)
  put-packets set note turn m sent =
      cond-keeps ArePackets (is_receiver at set m) (place note turn m) turn (λ _. place-packets note turn m sent) sent

  one-packets : (set : ℕ) (x : Send) (turn : Stepped State Packet) (m : ℕ) → ArePackets turn → ArePackets (send_one d at set x turn m)
  one-packets set x turn m sent =
      let draft = drafted d (with_it at m) turn.state x in
      cond-keeps ArePackets (is_receiver at set m) (place_draft d at turn x m draft) turn
      (λ _. place-packets (record { form = x.form; fields = draft.fields }) (record { state = draft.state; out = turn.out }) m
      (record { each = sent.each })) sent

  send-packets : (turn : Stepped State Packet) (x : Send) → ArePackets turn → ArePackets (send d at turn x)
  send-packets turn x sent =
      let draft = drafted d at turn.state x in
      let note : Note = record { form = x.form; fields = draft.fields } in
      let set = value_of d at turn.state x.to in
      cond-keeps ArePackets x.each (send_each d at set x turn) (put_draft d at turn x draft)
      (λ _. fold-keeps ArePackets (send_one d at set x) (one-packets set x) turn (range_with_len 0 at.nodes) sent)
      (fold-keeps ArePackets (put at (value_of d at draft.state x.to) note) (put-packets (value_of d at draft.state x.to) note)
      (record { state = draft.state; out = turn.out }) (range_with_len 0 at.nodes) (record { each = sent.each }))

  found-packets : (turn : Stepped State Packet) (found : Option Rule) → ArePackets turn → ArePackets (do_found d at turn found)
  found-packets turn None sent = sent
  found-packets turn (Some rule) sent =
      fold-keeps ArePackets (send d at) send-packets (record { state = fold (assign d at) turn.state rule.sets; out = turn.out }) rule.sends
      (record { each = sent.each })

  pass-packets : (event : Event) (turn : Stepped State Packet) (chain : Chain) → ArePackets turn → ArePackets (pass d at event turn chain)
  pass-packets event turn chain sent =
      cond-keeps ArePackets (is_passed at.nodes at.me (given_here at) event chain) (take_first d at turn chain.rules) turn
      (λ _. found-packets turn (first_true d at turn.state chain.rules) sent) sent

  act-packets : (event : Event) (turn : Stepped State Packet) → ArePackets turn → ArePackets (act d at event turn)
  unfolding act
  act-packets event turn sent = fold-keeps ArePackets (pass d at event) (pass-packets event) turn d.chains sent

module _ (d : Definition) (nodes : ℕ) (given : List (List ℕ)) (n t : ℕ) where
  noted-packets : (from : ℕ) (turn : Stepped State Packet) (note : Option Note) → ArePackets turn → ArePackets (hear_note d nodes given n t from turn note)
  noted-packets from turn None sent = sent
  noted-packets from turn (Some note) sent = act-packets d (moment nodes given n t from note.fields) (events.Note note.form) turn sent

  pub step-packets : (s : State) (inbox : List (Letter Packet)) → ArePackets (step_of d nodes given n t s inbox)
  step-packets s inbox =
      act-packets d (moment nodes given n t 0 no_fields) events.End _
      (fold-keeps ArePackets (hear_of d nodes given n t)
      (λ turn letter sent. fold-keeps ArePackets (hear_note d nodes given n t letter.from) (noted-packets letter.from) turn letter.note.notes sent)
      (begin_of d nodes given n t s) inbox
      (act-packets d (moment nodes given n t 0 no_fields) events.Begin (opened s)
      (record { each = λ to p is. absurd (none-some p (sym (note_to-nothing {Note = Packet} to) ∙ is)) })))
