-- A protocol of rules among the others: its states, notes and facts are some of those of all protocols.
use Rattle.std.specs.Prelude.{ℕ, Option, None, Some, List}
use Rattle.std.specs.List.{fold}
use Rattle.lf_sim.specs.declared.letter.Letter.{Letter}
use Rattle.lf_sim.specs.declared.out.Out.{Out}
use Rattle.lf_sim.specs.declared.out.Stepped.{Stepped}
use Rattle.lf_rule_machine.specs.declared.state.State.{State as Values}
use Rattle.lf_rule_machine.specs.declared.state.Packet.{Packet as Message}
use Rattle.lf_rule_machine.specs.Instances.{Instance}
use Rattle.lf_rule_machine.specs.Machines as rules
use Rattle.lf_protocols.specs.declared.note.Note.{Note}
use Rattle.lf_protocols.specs.declared.note.Note.TheVariants as notes
use Rattle.lf_protocols.specs.declared.state.State.{State}
use Rattle.lf_protocols.specs.declared.state.State.TheVariants as states

-- a note of rules as one of all, and back: no other note is one of rules
abbrev pub as_any : Option Message → Option Note
as_any None = None
as_any (Some note) = Some (notes.Ruled note)

abbrev pub as_ruled_note : Note → Option Message
as_ruled_note (notes.Ruled note) = Some note
as_ruled_note other = None

abbrev pub as_ruled : Option Note → Option Message
as_ruled None = None
as_ruled (Some note) = as_ruled_note note

-- the notes of a turn, for each node
abbrev pub any_out : Out Message → Out Note
any_out o = record {
  to0 = as_any o.to0;
  to1 = as_any o.to1;
  to2 = as_any o.to2;
  to3 = as_any o.to3;
  to4 = as_any o.to4;
  to5 = as_any o.to5;
  to6 = as_any o.to6;
  to7 = as_any o.to7;
}

abbrev pub ruled_out : Out Note → Out Message
ruled_out o = record {
  to0 = as_ruled o.to0;
  to1 = as_ruled o.to1;
  to2 = as_ruled o.to2;
  to3 = as_ruled o.to3;
  to4 = as_ruled o.to4;
  to5 = as_ruled o.to5;
  to6 = as_ruled o.to6;
  to7 = as_ruled o.to7;
}

-- a turn of rules as one of all, and back
abbrev pub any_turn : Stepped Values Message → Stepped State Note
any_turn turn = record { state = states.Ruled turn.state; out = any_out turn.out }

abbrev pub ruled_turn : Values → Out Note → Stepped Values Message
ruled_turn own out = record { state = own; out = ruled_out out }

-- a letter of rules as one of all
abbrev pub any_letter : Letter Message → Letter Note
any_letter letter = record { from = letter.from; sent = letter.sent; note = notes.Ruled letter.note }

module _ (m : Instance) (n t : ℕ) where
  -- a step by rules: before the letters, each letter, and after the letters. A letter with a note of another protocol is ignored
  abbrev pub begin_by_rules : Values → Stepped Values Message
  begin_by_rules own = rules.begin_of m.definition m.nodes m.given n t own

  abbrev pub hear_note : Stepped Values Message → ℕ → ℕ → Note → Stepped Values Message
  hear_note turn from sent (notes.Ruled note) =
      rules.hear_of m.definition m.nodes m.given n t turn (record { from = from; sent = sent; note = note })
  hear_note turn from sent other = turn

  abbrev pub hear_by_rules : Stepped Values Message → Letter Note → Stepped Values Message
  hear_by_rules turn letter = hear_note turn letter.from letter.sent letter.note

  abbrev pub end_by_rules : Stepped Values Message → Stepped Values Message
  end_by_rules turn = rules.end_of m.definition m.nodes m.given n t turn

  abbrev pub step_by_rules : Values → List (Letter Note) → Stepped Values Message
  step_by_rules own inbox = end_by_rules (fold hear_by_rules (begin_by_rules own) inbox)
