-- The notes that a node sends in one step.
use Rattle.std.specs.Prelude.{ℕ, not, ◌&&◌, ◌==◌, nat_lt, if◌then◌else◌, Option, None, Some}
use Rattle.lf_sim.specs.declared.out.Out.{Out}

-- the note for m, if there is one
abbrev pub note_to : {Note : Type 0} → Out Note → ℕ → Option Note
note_to out m =
    if m == 0 then out.to0 else if m == 1 then out.to1 else if m == 2 then out.to2 else if m == 3 then out.to3
    else if m == 4 then out.to4 else if m == 5 then out.to5 else if m == 6 then out.to6 else if m == 7 then out.to7 else None

-- the notes that a function of the receiver gives, for the receivers 0 to 7
abbrev pub notes_by : {Note : Type 0} → (ℕ → Option Note) → Out Note
notes_by f = record { to0 = f 0; to1 = f 1; to2 = f 2; to3 = f 3; to4 = f 4; to5 = f 5; to6 = f 6; to7 = f 7 }

-- no note
abbrev pub nothing : {Note : Type 0} → Out Note
nothing = notes_by (λ m. None)

-- the note, where m is a node and another than the sender
abbrev pub note_to_other : {Note : Type 0} → ℕ → ℕ → Note → ℕ → Option Note
note_to_other nodes node x m = if nat_lt m nodes && not (m == node) then Some x else None

-- the same note for each other node
abbrev pub to_others : {Note : Type 0} → ℕ → ℕ → Note → Out Note
to_others nodes node x = notes_by (note_to_other nodes node x)

-- the notes with this one for the node in place of the one that was there
abbrev pub with_note : {Note : Type 0} → Out Note → ℕ → Note → Out Note
with_note out node x = notes_by (λ m. if m == node then Some x else note_to out m)
