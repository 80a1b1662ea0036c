-- The words of the laws of deliveries.
use Rattle.std.specs.Prelude.{ℕ, ◌≤◌, List}
use Rattle.lf_sim.specs.declared.letter.Letter.{Letter}
use Rattle.lf_protocols.specs.declared.note.Note.{Note}
use Rattle.lf_protocols.specs.declared.note.Note.TheVariants.{Payload}
use Rattle.lf_protocols.specs.Letters.{Brings}
use Rattle.lf_protocols.specs.declared.state.Relay.{Relay}
use Rattle.lf_protocols.specs.declared.state.Relay.TheVariants.{Has, Lacks}

-- a letter brings the data
abbrev pub BringsData : List (Letter Note) → Type 0
BringsData inbox = Brings Payload inbox

-- it has sent at no more than `tries` steps
abbrev pub IsCounted : ℕ → Relay → Type 0
IsCounted tries (Has sent) = sent ≤ tries
IsCounted tries Lacks = Unit {0}
