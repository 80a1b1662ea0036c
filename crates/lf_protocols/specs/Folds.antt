-- A step of a node in its parts: what it does before its inbox, with each letter, and after its inbox.
use Rattle.std.specs.Prelude.{ℕ, Bool, true, ◌==◌, nat_le, if◌then◌else◌, slice_index_or, List, fold}
use Rattle.lf_sim.specs.declared.letter.Letter.{Letter}
use Rattle.lf_sim.specs.declared.out.Out.{Out}
use Rattle.lf_sim.specs.declared.out.Stepped.{Stepped}
use Rattle.lf_protocols.specs.declared.protocol.Kind.{Kind}
use Rattle.lf_protocols.specs.declared.protocol.Kind.TheVariants as kinds
use Rattle.lf_protocols.specs.declared.state.State.{State}
use Rattle.lf_protocols.specs.declared.state.State.TheVariants as states
use Rattle.lf_protocols.specs.declared.state.Progress.{Progress}
use Rattle.lf_protocols.specs.declared.state.Replica.{Replica}
use Rattle.lf_protocols.specs.declared.note.Note.{Note}
use Rattle.lf_protocols.specs.Turns.{begin}
use Rattle.lf_protocols.specs.RetryTable.{retry_hear, retry_send}
use Rattle.lf_protocols.specs.RedundantTable.{redundant_hear, redundant_send}
use Rattle.lf_protocols.specs.CommitTable.{commit_open, commit_poll, commit_participate}
use Rattle.lf_protocols.specs.TwoPhaseTable.{two_phase_end}
use Rattle.lf_protocols.specs.ThreePhaseTable.{three_phase_hear, three_phase_end, three_phase_join, three_phase_wait}
use Rattle.lf_protocols.specs.PrimaryBackupTable.{primary_hear, primary_end, backup_hear, backup_end, client_open, client_hear}
use Rattle.lf_protocols.specs.RuledTurns.{any_turn, ruled_turn, begin_by_rules, hear_by_rules, end_by_rules}
use Rattle.lf_protocols.specs.Protocols.{wrapped}

-- a commit, before the inbox
abbrev pub commit_begin : ℕ → ℕ → ℕ → Progress → Stepped Progress Note
commit_begin nodes node t own = if node == 0 then commit_open nodes t own else begin own

-- two_phase with a letter, and after the inbox
abbrev pub two_phase_hear_one : List Bool → ℕ → ℕ → Stepped Progress Note → Letter Note → Stepped Progress Note
two_phase_hear_one votes node t turn letter =
    if node == 0
    then commit_poll turn.state.phase letter.from letter.note turn
    else commit_participate t turn.state.phase letter.note (slice_index_or votes node true) turn

abbrev pub two_phase_finish : ℕ → ℕ → ℕ → ℕ → Stepped Progress Note → Stepped Progress Note
two_phase_finish nodes patience node t turn = if node == 0 then two_phase_end nodes patience t turn.state.phase turn else turn

-- three_phase with a letter, and after the inbox
abbrev pub three_phase_hear_one : List Bool → ℕ → ℕ → Stepped Progress Note → Letter Note → Stepped Progress Note
three_phase_hear_one votes node t turn letter =
    if node == 0
    then three_phase_hear turn.state.phase letter.from letter.note turn
    else three_phase_join t turn.state.phase letter.note (slice_index_or votes node true) turn

abbrev pub three_phase_finish : ℕ → ℕ → ℕ → ℕ → Stepped Progress Note → Stepped Progress Note
three_phase_finish nodes patience node t turn =
    if node == 0 then three_phase_end nodes patience t turn.state.phase turn else three_phase_wait patience t turn.state.phase turn

-- primary_backup before the inbox, with a letter, and after the inbox
abbrev pub primary_backup_begin : ℕ → ℕ → Replica → Stepped Replica Note
primary_backup_begin node t own = if node == 0 then begin own else if node == 1 then begin own else client_open node t own

abbrev pub primary_backup_hear_one : ℕ → ℕ → Stepped Replica Note → Letter Note → Stepped Replica Note
primary_backup_hear_one node t turn letter =
    if node == 0 then primary_hear letter.note turn
    else if node == 1 then backup_hear t letter.note turn
    else client_hear node letter.note turn

abbrev pub primary_backup_finish : ℕ → ℕ → ℕ → ℕ → Stepped Replica Note → Stepped Replica Note
primary_backup_finish nodes patience node t turn =
    if node == 0 then primary_end turn else if node == 1 then backup_end nodes patience t turn else turn

-- what a node does before its inbox. In a state that its protocol's table doesn't name it does nothing, then and later
abbrev pub begin_of : Kind → ℕ → ℕ → State → Stepped State Note
begin_of (kinds.TwoPhase nodes patience votes) node t (states.TwoPhase own) = wrapped states.TwoPhase (commit_begin nodes node t own)
begin_of (kinds.ThreePhase nodes patience votes) node t (states.ThreePhase own) = wrapped states.ThreePhase (commit_begin nodes node t own)
begin_of (kinds.PrimaryBackup nodes patience) node t (states.PrimaryBackup own) =
    if nat_le 3 nodes then wrapped states.PrimaryBackup (primary_backup_begin node t own) else begin (states.PrimaryBackup own)
begin_of (kinds.Ruled m) node t (states.Ruled own) = any_turn (begin_by_rules m node t own)
begin_of k node t own = begin own

-- with a letter, from the state and the notes that it has come to
abbrev pub heard_of : Kind → ℕ → ℕ → State → Out Note → Letter Note → Stepped State Note
heard_of (kinds.Retry nodes tries) node t (states.Retry own) out letter = record { state = states.Retry (retry_hear own letter.note); out = out }
heard_of (kinds.Redundant nodes tries) node t (states.Redundant own) out letter =
    record { state = states.Redundant (redundant_hear own letter.note); out = out }
heard_of (kinds.TwoPhase nodes patience votes) node t (states.TwoPhase own) out letter =
    wrapped states.TwoPhase (two_phase_hear_one votes node t (record { state = own; out = out }) letter)
heard_of (kinds.ThreePhase nodes patience votes) node t (states.ThreePhase own) out letter =
    wrapped states.ThreePhase (three_phase_hear_one votes node t (record { state = own; out = out }) letter)
heard_of (kinds.PrimaryBackup nodes patience) node t (states.PrimaryBackup own) out letter =
    if nat_le 3 nodes
    then wrapped states.PrimaryBackup (primary_backup_hear_one node t (record { state = own; out = out }) letter)
    else record { state = states.PrimaryBackup own; out = out }
heard_of (kinds.Ruled m) node t (states.Ruled own) out letter = any_turn (hear_by_rules m node t (ruled_turn own out) letter)
heard_of k node t own out letter = record { state = own; out = out }

abbrev pub hear_of : Kind → ℕ → ℕ → Stepped State Note → Letter Note → Stepped State Note
hear_of k node t turn letter = heard_of k node t turn.state turn.out letter

-- after the inbox, from the state and the notes that it has come to
abbrev pub ended_of : Kind → ℕ → ℕ → State → Out Note → Stepped State Note
ended_of (kinds.Retry nodes tries) node t (states.Retry own) out = record { state = states.Retry own; out = retry_send nodes tries node t }
ended_of (kinds.Redundant nodes tries) node t (states.Redundant own) out = wrapped states.Redundant (redundant_send nodes tries node own)
ended_of (kinds.TwoPhase nodes patience votes) node t (states.TwoPhase own) out =
    wrapped states.TwoPhase (two_phase_finish nodes patience node t (record { state = own; out = out }))
ended_of (kinds.ThreePhase nodes patience votes) node t (states.ThreePhase own) out =
    wrapped states.ThreePhase (three_phase_finish nodes patience node t (record { state = own; out = out }))
ended_of (kinds.PrimaryBackup nodes patience) node t (states.PrimaryBackup own) out =
    if nat_le 3 nodes
    then wrapped states.PrimaryBackup (primary_backup_finish nodes patience node t (record { state = own; out = out }))
    else record { state = states.PrimaryBackup own; out = out }
ended_of (kinds.Ruled m) node t (states.Ruled own) out = any_turn (end_by_rules m node t (ruled_turn own out))
ended_of k node t own out = record { state = own; out = out }

abbrev pub end_of : Kind → ℕ → ℕ → Stepped State Note → Stepped State Note
end_of k node t turn = ended_of k node t turn.state turn.out

-- a step in these parts: the letters are heard in inbox order
abbrev pub folded_step : Kind → ℕ → ℕ → State → List (Letter Note) → Stepped State Note
folded_step k node t own inbox = end_of k node t (fold (hear_of k node t) (begin_of k node t own) inbox)
