-- The words of what a machine shows in a trace.
use Rattle.std.specs.Prelude.{ℕ, List}
use Rattle.lf_protocols.specs.declared.protocol.Kind.{Kind}
use Rattle.lf_protocols.specs.declared.note.Note.{Note}
use Rattle.lf_protocols.specs.declared.state.State.{State}
use Rattle.lf_protocols.specs.Words.{note_text, standing_text}

-- those of its states, and those of its notes
pub record Words (State Note : Type 0) : Type 0 where
  pub state : State → List ℕ
  pub note : Note → List ℕ

-- those of a protocol
abbrev pub words_of : Kind → Words State Note
words_of k = record { state = standing_text k; note = note_text k }
