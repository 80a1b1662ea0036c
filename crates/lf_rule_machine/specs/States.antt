-- States and notes.
use Rattle.std.specs.Prelude.{ℕ, suc, Bool, true, false, not, ◌&&◌, ◌==◌, if◌then◌else◌}
use Rattle.std.specs.Prelude.{List, [], ◌∷◌, Option, None, Some, replicate, slice_get, slice_set}
use Rattle.lf_rule_machine.specs.declared.state.State.{State}
use Rattle.lf_rule_machine.specs.declared.state.Note.{Note}
use Rattle.lf_rule_machine.specs.declared.state.Packet.{Packet}

-- every cell is 0
abbrev pub zeros : State
zeros = record { values = replicate 64 0; clamped = false; replaced = false }

-- two lists have the same numbers in the same order
abbrev pub same_numbers : List ℕ → List ℕ → Bool
same_numbers [] [] = true
same_numbers [] (y ∷ ys) = false
same_numbers (x ∷ xs) [] = false
same_numbers (x ∷ xs) (y ∷ ys) = (x == y) && same_numbers xs ys

-- two notes have the same form and the same fields
abbrev pub same_note : Note → Note → Bool
same_note x y = (x.form == y.form) && same_numbers x.fields y.fields

-- a packet without a note
abbrev pub empty : Packet
empty = record { notes = replicate 4 None }

-- the place of a note of a form among some: where one of this form stands, or else behind all that are there
abbrev pub place_for : List (Option Note) → ℕ → ℕ
place_for [] form = 0
place_for (None ∷ xs) form = 0
place_for (Some x ∷ xs) form = if x.form == form then 0 else suc (place_for xs form)

-- a note that is put at a place isn't heard, or another one isn't: where another one of its form stands there, or where there is no such place
abbrev pub is_lost : Option (Option Note) → Note → Bool
is_lost None note = true
is_lost (Some None) note = false
is_lost (Some (Some old)) note = not (same_note old note)

-- a packet with a note put into it: at its place. Where there is no such place, it isn't put
abbrev pub packed : Packet → Note → Packet
packed p note = record { notes = slice_set p.notes (place_for p.notes note.form) (Some note) }

-- whether a note is lost by that
abbrev pub loses : Packet → Note → Bool
loses p note = is_lost (slice_get p.notes (place_for p.notes note.form)) note

-- what is put into: what is there, or a packet without a note
abbrev pub packet_of : Option Packet → Packet
packet_of None = empty
packet_of (Some p) = p

-- the notes of a packet, in order
abbrev pub notes_in : List (Option Note) → List Note
notes_in [] = []
notes_in (None ∷ xs) = notes_in xs
notes_in (Some x ∷ xs) = x ∷ notes_in xs
