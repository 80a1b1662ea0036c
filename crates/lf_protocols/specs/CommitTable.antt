-- The rules that two_phase and three_phase have in common. Node 0 asks, and the nodes from 1 on, the participants, vote.
use Rattle.std.specs.Prelude.{ℕ, Bool, true, false, not, ◌==◌, if◌then◌else◌, List, fold, slice_index_or}
use Rattle.lf_sim.specs.declared.letter.Letter.{Letter}
use Rattle.lf_sim.specs.declared.out.Stepped.{Stepped}
use Rattle.lf_protocols.specs.declared.note.Note.{Note}
use Rattle.lf_protocols.specs.declared.note.Note.TheVariants as notes
use Rattle.lf_protocols.specs.declared.fact.Fact.{Fact}
use Rattle.lf_protocols.specs.declared.fact.Fact.TheVariants as facts
use Rattle.lf_protocols.specs.declared.nodes.Nodes.{Nodes}
use Rattle.lf_protocols.specs.declared.state.Progress.{Progress}
use Rattle.lf_protocols.specs.declared.state.Phase.{Phase}
use Rattle.lf_protocols.specs.declared.state.Phase.TheVariants as phases
use Rattle.lf_protocols.specs.Facts.{is_denial}
use Rattle.lf_protocols.specs.NodeSets.{no_nodes, with_node, has_participants}
use Rattle.lf_protocols.specs.Turns.{begin, become, tell, tell_all, is_time_out}

-- a node's state and the notes that it has set so far in a step
abbrev pub Turn : Type 0
Turn = Stepped Progress Note

-- in another phase, with the same `since`
abbrev pub in_phase : Phase → Turn → Turn
in_phase phase turn = become (record { phase = phase; since = turn.state.since }) turn

-- in another phase, with since = t
abbrev pub commit_enter : Phase → ℕ → Turn → Turn
commit_enter phase t turn = become (record { phase = phase; since = t }) turn

-- node 0: in another phase, and a note to all
abbrev pub commit_announce : ℕ → Phase → Note → Turn → Turn
commit_announce nodes phase note turn = tell_all nodes 0 note (in_phase phase turn)

-- at the start
abbrev pub commit_start : Progress
commit_start = record { phase = phases.Idle; since = 0 }

-- at waking: since = t
abbrev pub commit_wake : ℕ → Progress → Progress
commit_wake t own = record { phase = own.phase; since = t }

-- node 0, t = 1: Voting, with no vote noted, since = 1, PREPARE to all
abbrev pub commit_open : ℕ → ℕ → Progress → Turn
commit_open nodes t own =
    if t == 1 then tell_all nodes 0 notes.Prepare (commit_enter (phases.Voting no_nodes false) 1 (begin own)) else begin own

-- node 0 and a letter, by phase, sender and note
abbrev pub commit_poll : Phase → ℕ → Note → Turn → Turn
-- Voting, YES from n: notes n's yes
commit_poll (phases.Voting agreed refused) n notes.Yes turn = in_phase (phases.Voting (with_node agreed n) refused) turn
-- Voting, NO: notes a no
commit_poll (phases.Voting agreed refused) n notes.No turn = in_phase (phases.Voting agreed true) turn
commit_poll phase n note turn = turn

-- node 0 after the inbox, Voting: the first that applies. What is done where all said yes is each protocol's own
abbrev pub commit_end_poll : ℕ → ℕ → ℕ → Nodes → Bool → Turn → Turn → Turn
commit_end_poll nodes patience t agreed refused turn all_agreed =
    -- a no is noted: Aborted, ABORT to all
    if refused then commit_announce nodes phases.Aborted notes.Abort turn
    -- all yes
    else if has_participants nodes agreed then all_agreed
    -- t - since ≥ patience: Aborted, ABORT to all
    else if is_time_out patience t turn.state.since then commit_announce nodes phases.Aborted notes.Abort turn
    else turn

-- a participant and a letter, by its phase, the note and its vote
abbrev pub commit_participate : ℕ → Phase → Note → Bool → Turn → Turn
-- Idle, PREPARE, vote true: Prepared, since = t, YES to 0
commit_participate t phases.Idle notes.Prepare true turn = tell 0 notes.Yes (commit_enter phases.Prepared t turn)
-- Idle, PREPARE, vote false: Aborted, NO to 0
commit_participate t phases.Idle notes.Prepare false turn = tell 0 notes.No (in_phase phases.Aborted turn)
-- Idle or Prepared, COMMIT: Committed
commit_participate t phases.Idle notes.Commit vote turn = in_phase phases.Committed turn
commit_participate t phases.Prepared notes.Commit vote turn = in_phase phases.Committed turn
-- Idle or Prepared, ABORT: Aborted
commit_participate t phases.Idle notes.Abort vote turn = in_phase phases.Aborted turn
commit_participate t phases.Prepared notes.Abort vote turn = in_phase phases.Aborted turn
commit_participate t phase note vote turn = turn

-- a step of a commit, with each node's vote in its place. Node 0 does what it does by the step's number, hears the letters
-- in inbox order, and ends; a participant hears them and waits. How they hear, end and wait is each protocol's own
abbrev pub commit_step : (Turn → Letter Note → Turn) → (Turn → Turn) → (Bool → Turn → Letter Note → Turn) → (Turn → Turn) →
    ℕ → List Bool → ℕ → ℕ → Progress → List (Letter Note) → Turn
commit_step hear end join wait nodes votes node t own inbox =
    if node == 0
    then end (fold hear (commit_open nodes t own) inbox)
    else wait (fold (join (slice_index_or votes node true)) (begin own) inbox)

abbrev pub is_committed : Phase → Bool
is_committed phases.Committed = true
is_committed phase = false

abbrev pub is_aborted : Phase → Bool
is_aborted phases.Aborted = true
is_aborted phase = false

abbrev pub is_prepared : Phase → Bool
is_prepared phases.Prepared = true
is_prepared phase = false

-- blocked is the phase Prepared, and free is every other
abbrev pub commit_shows : Phase → Fact → Bool
commit_shows phase facts.Committed = is_committed phase
commit_shows phase facts.NotCommitted = not (is_committed phase)
commit_shows phase facts.Aborted = is_aborted phase
commit_shows phase facts.NotAborted = not (is_aborted phase)
commit_shows phase facts.Blocked = is_prepared phase
commit_shows phase facts.Free = not (is_prepared phase)
commit_shows phase fact = is_denial fact
