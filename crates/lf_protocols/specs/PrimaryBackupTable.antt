-- The table of primary_backup, rule by rule. Node 0 is the primary, node 1 the backup, and node 2 the client.
use Rattle.std.specs.Prelude.{ℕ, Bool, true, false, not, ◌&&◌, ◌==◌, nat_lt, if◌then◌else◌, List, fold, Option, Some}
use Rattle.lf_sim.specs.declared.letter.Letter.{Letter}
use Rattle.lf_sim.specs.declared.out.Out.{Out}
use Rattle.lf_sim.specs.declared.out.Stepped.{Stepped}
use Rattle.lf_sim.specs.Outs.{note_to, notes_by, note_to_other}
use Rattle.lf_protocols.specs.declared.note.Note.{Note}
use Rattle.lf_protocols.specs.declared.note.Note.TheVariants as notes
use Rattle.lf_protocols.specs.declared.fact.Fact.{Fact}
use Rattle.lf_protocols.specs.declared.fact.Fact.TheVariants as facts
use Rattle.lf_protocols.specs.declared.state.Replica.{Replica}
use Rattle.lf_protocols.specs.Facts.{is_denial}
use Rattle.lf_protocols.specs.Turns.{begin, become, tell, is_time_out}

-- a node's state and the notes that it has set so far in a step
abbrev pub Turn : Type 0
Turn = Stepped Replica Note

-- at the start: all is false, but node 0 is primary
abbrev pub primary_backup_start : ℕ → Replica
primary_backup_start node = record { holds = false; done = false; primary = node == 0; claimed = false; since = 0 }

-- at waking: since = t
abbrev pub primary_backup_wake : ℕ → Replica → Replica
primary_backup_wake t own = record own { since = t }

-- node 0 and a letter
abbrev pub primary_hear : Note → Turn → Turn
-- WRITE: holds, REPL to 1
primary_hear notes.Write turn = tell 1 notes.Repl (become (record turn.state { holds = true }) turn)
-- ACK: DONE to 2
primary_hear notes.Ack turn = tell 2 notes.Done turn
primary_hear note turn = turn

abbrev pub is_repl : Option Note → Bool
is_repl (Some notes.Repl) = true
is_repl other = false

-- node 0 after the inbox, no REPL set for 1 in this step: BEAT to 1
abbrev pub primary_end : Turn → Turn
primary_end turn = if is_repl (note_to turn.out 1) then turn else tell 1 notes.Beat turn

-- node 1 and a letter, whether it is primary or not
abbrev pub backup_hear : ℕ → Note → Turn → Turn
-- REPL: since = t, holds, ACK to 0
backup_hear t notes.Repl turn = tell 0 notes.Ack (become (record turn.state { holds = true; since = t }) turn)
-- BEAT: since = t
backup_hear t notes.Beat turn = become (record turn.state { since = t }) turn
backup_hear t note turn = turn

-- a note CLAIM to every node from 2 on, in place of those that were set for them before
abbrev pub claim : ℕ → Out Note → Out Note
claim nodes out = notes_by (λ m. if nat_lt m 2 then note_to out m else note_to_other nodes 1 notes.Claim m)

-- node 1 after the inbox, not primary, t - since ≥ patience: primary, CLAIM to every node from 2 on
abbrev pub backup_end : ℕ → ℕ → ℕ → Turn → Turn
backup_end nodes patience t turn =
    if not turn.state.primary && is_time_out patience t turn.state.since
    then record { state = record turn.state { primary = true }; out = claim nodes turn.out }
    else turn

-- node 2, t = 1: WRITE to 0. The nodes past it do nothing
abbrev pub client_open : ℕ → ℕ → Replica → Turn
client_open node t own = if (node == 2) && (t == 1) then tell 0 notes.Write (begin own) else begin own

-- a node from 2 on and a letter
abbrev pub client_hear : ℕ → Note → Turn → Turn
-- node 2, DONE: done
client_hear node notes.Done turn = if node == 2 then become (record turn.state { done = true }) turn else turn
-- CLAIM: claimed
client_hear node notes.Claim turn = become (record turn.state { claimed = true }) turn
client_hear node note turn = turn

-- a step of node 0: the letters in inbox order, and then what comes after the inbox
abbrev pub primary_step : Replica → List (Letter Note) → Turn
primary_step own inbox = primary_end (fold (λ turn letter. primary_hear letter.note turn) (begin own) inbox)

-- a step of node 1
abbrev pub backup_step : ℕ → ℕ → ℕ → Replica → List (Letter Note) → Turn
backup_step nodes patience t own inbox =
    backup_end nodes patience t (fold (λ turn letter. backup_hear t letter.note turn) (begin own) inbox)

-- a step of a node from 2 on: what it does by the step's number, and then the letters in inbox order
abbrev pub client_step : ℕ → ℕ → Replica → List (Letter Note) → Turn
client_step node t own inbox = fold (λ turn letter. client_hear node letter.note turn) (client_open node t own) inbox

-- a step
abbrev pub primary_backup_step : ℕ → ℕ → ℕ → ℕ → Replica → List (Letter Note) → Turn
primary_backup_step nodes patience node t own inbox =
    if node == 0 then primary_step own inbox
    else if node == 1 then backup_step nodes patience t own inbox
    else client_step node t own inbox

abbrev pub primary_backup_shows : Replica → Fact → Bool
primary_backup_shows own facts.Holds = own.holds
primary_backup_shows own facts.Empty = not own.holds
primary_backup_shows own facts.Done = own.done
primary_backup_shows own facts.NotDone = not own.done
primary_backup_shows own facts.Primary = own.primary
primary_backup_shows own facts.Backup = not own.primary
primary_backup_shows own facts.Claimed = own.claimed
primary_backup_shows own facts.Unclaimed = not own.claimed
primary_backup_shows own fact = is_denial fact
