-- What an inbox brings.
use Rattle.std.specs.Prelude.{◌≡◌, List}
use Rattle.std.specs.List.{Any}
use Rattle.lf_sim.specs.declared.letter.Letter.{Letter}
use Rattle.lf_protocols.specs.declared.note.Note.{Note}

-- a letter brings the note
abbrev pub Brings : Note → List (Letter Note) → Type 0
Brings note inbox = Any (λ letter. letter.note ≡ note) inbox
