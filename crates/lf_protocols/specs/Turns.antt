-- What a node has come to within a step, and when a time-out comes.
use Rattle.std.specs.Prelude.{ℕ, ◌-◌, nat_le, Bool}
use Rattle.lf_sim.specs.declared.out.Stepped.{Stepped}
use Rattle.lf_sim.specs.Outs.{nothing, to_others, with_note}
use Rattle.lf_protocols.specs.declared.note.Note.{Note}

-- nothing has been done yet
abbrev pub begin : {Own : Type 0} → Own → Stepped Own Note
begin own = record { state = own; out = nothing }

-- with this state
abbrev pub become : {Own : Type 0} → Own → Stepped Own Note → Stepped Own Note
become own turn = record { state = own; out = turn.out }

-- with a note for one node, in place of one that was set for it before
abbrev pub tell : {Own : Type 0} → ℕ → Note → Stepped Own Note → Stepped Own Note
tell to note turn = record { state = turn.state; out = with_note turn.out to note }

-- with a note for every other node, so in place of all that were set before
abbrev pub tell_all : {Own : Type 0} → ℕ → ℕ → Note → Stepped Own Note → Stepped Own Note
tell_all nodes node note turn = record { state = turn.state; out = to_others nodes node note }

-- at step t, `patience` steps have gone by since a step
abbrev pub is_time_out : ℕ → ℕ → ℕ → Bool
is_time_out patience t since = nat_le patience (t - since)
