-- Which rules a node of a protocol of rules takes at a step, in the order in which it takes them.
use Rattle.std.specs.Prelude.{ℕ, Bool, if◌then◌else◌, List, [], ◌∷◌, ◌++◌, Option, None, Some}
use Rattle.std.specs.List.{fold}
use Rattle.lf_sim.specs.declared.letter.Letter.{Letter}
use Rattle.lf_sim.specs.declared.out.Stepped.{Stepped}
use Rattle.lf_rules.specs.declared.rule.Event.{Event}
use Rattle.lf_rules.specs.declared.rule.Event.TheVariants as events
use Rattle.lf_rule_machine.specs.declared.state.State.{State}
use Rattle.lf_rule_machine.specs.declared.state.Note.{Note as Message}
use Rattle.lf_rule_machine.specs.declared.state.Packet.{Packet}
use Rattle.lf_rule_machine.specs.Instances.{Instance}
use Rattle.lf_rule_machine.specs.Machines.{moment, no_fields, hear_note, opened, wake_of}
use Rattle.lf_protocols.specs.declared.note.Note.{Note}
use Rattle.lf_protocols.specs.declared.note.Note.TheVariants as notes
use Rattle.lf_protocols.specs.RuledTurns.{begin_by_rules, hear_by_rules}
use Rattle.lf_taken.specs.Numbers.{taken_in}

module _ (m : Instance) (n t : ℕ) where
  -- at an event without a letter
  abbrev pub taken_alone : Event → Stepped State Packet → List ℕ
  taken_alone event turn = taken_in m.definition (moment m.nodes m.given n t 0 no_fields) event turn

  -- at a note by a sender: none where there is no note
  abbrev pub taken_by_one : Stepped State Packet → ℕ → Option Message → List ℕ
  taken_by_one turn from None = []
  taken_by_one turn from (Some note) = taken_in m.definition (moment m.nodes m.given n t from note.fields) (events.Note note.form) turn

  -- at the notes of a packet, in order
  abbrev pub taken_by_notes : Stepped State Packet → ℕ → List (Option Message) → List ℕ
  taken_by_notes turn from [] = []
  taken_by_notes turn from (x ∷ xs) =
      taken_by_one turn from x ++ taken_by_notes (hear_note m.definition m.nodes m.given n t from turn x) from xs

  -- at a letter: one with a note of another protocol is ignored
  abbrev pub taken_by_note : Stepped State Packet → ℕ → Note → List ℕ
  taken_by_note turn from (notes.Ruled packet) = taken_by_notes turn from packet.notes
  taken_by_note turn from other = []

  -- at the letters of an inbox, in order
  abbrev pub taken_by_letters : Stepped State Packet → List (Letter Note) → List ℕ
  taken_by_letters turn [] = []
  taken_by_letters turn (x ∷ xs) = taken_by_note turn x.from x.note ++ taken_by_letters (hear_by_rules m n t turn x) xs

  -- what a node has come to with the letters
  abbrev pub heard : State → List (Letter Note) → Stepped State Packet
  heard own inbox = fold (hear_by_rules m n t) (begin_by_rules m n t own) inbox

  -- at a step: before the letters, at each letter, and after the letters
  abbrev pub taken_in_step : State → List (Letter Note) → List ℕ
  taken_in_step own inbox =
      taken_alone events.Begin (opened own) ++ taken_by_letters (begin_by_rules m n t own) inbox ++ taken_alone events.End (heard own inbox)

  -- a step at which the node wakes begins with what is taken on waking
  abbrev pub taken_in_turn : Bool → State → List (Letter Note) → List ℕ
  taken_in_turn wakes own inbox =
      if wakes
      then taken_alone events.Wake (opened own) ++ taken_in_step (wake_of m.definition m.nodes m.given n t own) inbox
      else taken_in_step own inbox
