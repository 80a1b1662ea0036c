-- The table of retry, rule by rule. No rule goes by a step's number alone, before the inbox.
use Rattle.std.specs.Prelude.{ℕ, Bool, true, false, ◌&&◌, ◌==◌, nat_le, if◌then◌else◌, List, fold}
use Rattle.lf_sim.specs.declared.letter.Letter.{Letter}
use Rattle.lf_sim.specs.declared.out.Out.{Out}
use Rattle.lf_sim.specs.declared.out.Stepped.{Stepped}
use Rattle.lf_sim.specs.Outs.{nothing, to_others}
use Rattle.lf_protocols.specs.declared.note.Note.{Note}
use Rattle.lf_protocols.specs.declared.note.Note.TheVariants.{Payload}
use Rattle.lf_protocols.specs.declared.fact.Fact.{Fact}
use Rattle.lf_protocols.specs.declared.fact.Fact.TheVariants as facts
use Rattle.lf_protocols.specs.Facts.{is_denial}
use Rattle.lf_protocols.specs.declared.state.Holding.{Holding}
use Rattle.lf_protocols.specs.declared.state.Holding.TheVariants.{Has, Lacks}

-- at the start: node 0 has the data, the others lack it
abbrev pub retry_start : ℕ → Holding
retry_start node = if node == 0 then Has else Lacks

-- the note with the data: the receiver has it
abbrev pub retry_hear : Holding → Note → Holding
retry_hear state Payload = Has
retry_hear state note = state

-- the letters are handled in inbox order
abbrev pub retry_hear_all : Holding → List (Letter Note) → Holding
retry_hear_all state inbox = fold (λ before letter. retry_hear before letter.note) state inbox

-- after the inbox: node 0 sends the data to all, where the step is at most `tries`
abbrev pub retry_send : ℕ → ℕ → ℕ → ℕ → Out Note
retry_send nodes tries node t = if (node == 0) && nat_le t tries then to_others nodes node Payload else nothing

-- a step: the letters, then what comes after the inbox
abbrev pub retry_step : ℕ → ℕ → ℕ → ℕ → Holding → List (Letter Note) → Stepped Holding Note
retry_step nodes tries node t state inbox = record { state = retry_hear_all state inbox; out = retry_send nodes tries node t }

-- of `has` and `lacks`, a state shows the one that it is
abbrev pub retry_shows : Holding → Fact → Bool
retry_shows Has facts.Has = true
retry_shows Has facts.Lacks = false
retry_shows Lacks facts.Has = false
retry_shows Lacks facts.Lacks = true
retry_shows state fact = is_denial fact
