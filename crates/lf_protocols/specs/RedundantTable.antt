-- The table of redundant, rule by rule. No rule goes by a step's number.
use Rattle.std.specs.Prelude.{ℕ, ◌+◌, Bool, true, false, ◌==◌, nat_lt, if◌then◌else◌, List, fold}
use Rattle.lf_sim.specs.declared.letter.Letter.{Letter}
use Rattle.lf_sim.specs.declared.out.Stepped.{Stepped}
use Rattle.lf_sim.specs.Outs.{nothing, to_others}
use Rattle.lf_protocols.specs.declared.note.Note.{Note}
use Rattle.lf_protocols.specs.declared.note.Note.TheVariants.{Payload}
use Rattle.lf_protocols.specs.declared.fact.Fact.{Fact}
use Rattle.lf_protocols.specs.declared.fact.Fact.TheVariants as facts
use Rattle.lf_protocols.specs.Facts.{is_denial}
use Rattle.lf_protocols.specs.declared.state.Relay.{Relay}
use Rattle.lf_protocols.specs.declared.state.Relay.TheVariants.{Has, Lacks}

-- at the start: node 0 has the data and has sent it at no step, the others lack it
abbrev pub redundant_start : ℕ → Relay
redundant_start node = if node == 0 then Has 0 else Lacks

-- the note with the data, where the receiver lacks it: the receiver has it, and has sent it at no step. One that has it
-- ignores the note
abbrev pub redundant_hear : Relay → Note → Relay
redundant_hear Lacks Payload = Has 0
redundant_hear state note = state

-- the letters are handled in inbox order
abbrev pub redundant_hear_all : Relay → List (Letter Note) → Relay
redundant_hear_all state inbox = fold (λ before letter. redundant_hear before letter.note) state inbox

-- after the inbox: a node that has the data, and has sent it at fewer than `tries` steps, sends it to all and counts one
-- step more
abbrev pub redundant_send : ℕ → ℕ → ℕ → Relay → Stepped Relay Note
redundant_send nodes tries node Lacks = record { state = Lacks; out = nothing }
redundant_send nodes tries node (Has sent) =
    if nat_lt sent tries
    then record { state = Has (sent + 1); out = to_others nodes node Payload }
    else record { state = Has sent; out = nothing }

-- a step: the letters, then what comes after the inbox
abbrev pub redundant_step : ℕ → ℕ → ℕ → Relay → List (Letter Note) → Stepped Relay Note
redundant_step nodes tries node state inbox = redundant_send nodes tries node (redundant_hear_all state inbox)

-- of `has` and `lacks`, a state shows the one that it is
abbrev pub redundant_shows : Relay → Fact → Bool
redundant_shows (Has sent) facts.Has = true
redundant_shows (Has sent) facts.Lacks = false
redundant_shows Lacks facts.Has = false
redundant_shows Lacks facts.Lacks = true
redundant_shows state fact = is_denial fact
