-- Turns that are kept short, and what they stand for.
use Rattle.std.specs.Prelude.{◌≡◌, ℕ, suc, ◌/◌, ◌%◌, ◌^◌, ◌<◌, Bool, true, false, not, ◌&&◌, ◌==◌, nat_lt, if◌then◌else◌}
use Rattle.std.specs.Prelude.{List, [], ◌∷◌, slice_index_or, vec_capacity, Option, None, Some, IfSome}
use Rattle.lf_sim.specs.declared.out.Out.{Out}
use Rattle.lf_sim.specs.declared.out.Stepped.{Stepped}
use Rattle.lf_sim.specs.declared.sends.Kept.{Kept}
use Rattle.lf_sim.specs.declared.sends.Seen.{Seen}
use Rattle.lf_sim.specs.declared.sends.Sends.{Sends}
use Rattle.lf_sim.specs.declared.sends.Sends.TheVariants.{Nothing, Same, Each}
use Rattle.lf_sim.specs.declared.turns.Turns.{Turns}
use Rattle.lf_sim.specs.Outs.{note_to, notes_by, nothing}

-- m is among receivers of which each is told by a bit
abbrev pub is_receiver : ℕ → ℕ → Bool
is_receiver to m = ((to / (2 ^ m)) % 2) == 1

-- the bits tell for which of the eight it is so
abbrev pub AreReceivers : ℕ → (ℕ → Bool) → Type 0
AreReceivers to f = (m : ℕ) → m < 8 → is_receiver to m ≡ f m

-- m is a node, and another than the sender
abbrev pub is_other : ℕ → ℕ → ℕ → Bool
is_other nodes node m = nat_lt m nodes && not (m == node)

-- each note is this one
abbrev pub AreAll : {Note : Type 0} → Note → Out Note → Type 0
AreAll x out = (m : ℕ) → IfSome (note_to out m) (λ y. y ≡ x)

-- the note, where m is a receiver
abbrev pub note_where : {Note : Type 0} → ℕ → Note → ℕ → Option Note
note_where to x m = if is_receiver to m then Some x else None

-- the note for each receiver
abbrev pub same_to : {Note : Type 0} → ℕ → Note → Out Note
same_to to x = notes_by (note_where to x)

-- the notes stand elsewhere
abbrev pub is_each : {Note : Type 0} → Sends Note → Bool
is_each Nothing = false
is_each (Same to x) = false
is_each Each = true

abbrev pub sends_each : {State Note : Type 0} → Kept State Note → Bool
sends_each kept = is_each kept.sends

-- what is sent, where `out` stands elsewhere
abbrev pub out_of : {Note : Type 0} → Sends Note → Out Note → Out Note
out_of Nothing out = nothing
out_of (Same to x) out = same_to to x
out_of Each out = out

-- the turn that is kept
abbrev pub turn_of : {State Note : Type 0} → Kept State Note → Out Note → Stepped State Note
turn_of kept out = record { state = kept.state; out = out_of kept.sends out }

abbrev pub turn_seen : {State Note : Type 0} → Seen State Note → Stepped State Note
turn_seen seen = turn_of seen.kept.now seen.out.now

-- those from place k on, with the notes that stand for them by place
abbrev pub turns_from : {State Note : Type 0} → ℕ → List (Kept State Note) → List (Out Note) → List (Stepped State Note)
turns_from k [] outs = []
turns_from k (t ∷ ts) outs = turn_of t (slice_index_or outs k nothing) ∷ turns_from (suc k) ts outs

-- all of them
abbrev pub turns_of : {State Note : Type 0} → Turns State Note → List (Stepped State Note)
turns_of turns = turns_from 0 turns.kept.items turns.outs.items

-- for how many there is memory
abbrev pub room_of : {State Note : Type 0} → Turns State Note → ℕ
room_of turns = vec_capacity turns.kept

-- a turn that sends nothing, and one that sends these notes
abbrev pub silent : {State Note : Type 0} → State → Stepped State Note
silent state = record { state = state; out = nothing }

abbrev pub turn_to : {State Note : Type 0} → State → Out Note → Stepped State Note
turn_to state out = record { state = state; out = out }
