-- The table of three_phase, rule by rule. The rules that it shares with two_phase stand in CommitTable.
use Rattle.std.specs.Prelude.{ℕ, Bool, ◌||◌, if◌then◌else◌, List}
use Rattle.lf_sim.specs.declared.letter.Letter.{Letter}
use Rattle.lf_protocols.specs.declared.note.Note.{Note}
use Rattle.lf_protocols.specs.declared.note.Note.TheVariants as notes
use Rattle.lf_protocols.specs.declared.state.Progress.{Progress}
use Rattle.lf_protocols.specs.declared.state.Phase.{Phase}
use Rattle.lf_protocols.specs.declared.state.Phase.TheVariants as phases
use Rattle.lf_protocols.specs.NodeSets.{no_nodes, with_node, has_participants}
use Rattle.lf_protocols.specs.Turns.{tell, tell_all, is_time_out}
use Rattle.lf_protocols.specs.CommitTable.{Turn, in_phase, commit_enter, commit_announce, commit_poll, commit_end_poll, commit_participate, commit_step}

-- node 0 and a letter, by phase, sender and note
abbrev pub three_phase_hear : Phase → ℕ → Note → Turn → Turn
-- Precommitting, ACK from n: notes n's ack
three_phase_hear (phases.Precommitting acked) n notes.Ack turn = in_phase (phases.Precommitting (with_node acked n)) turn
three_phase_hear phase n note turn = commit_poll phase n note turn

-- node 0 after the inbox, by phase: at most one rule
abbrev pub three_phase_end : ℕ → ℕ → ℕ → Phase → Turn → Turn
-- Voting, all yes: Precommitting, with no ack noted, since = t, PRECOMMIT to all
three_phase_end nodes patience t (phases.Voting agreed refused) turn =
    commit_end_poll nodes patience t agreed refused turn
    (tell_all nodes 0 notes.Precommit (commit_enter (phases.Precommitting no_nodes) t turn))
-- Precommitting, all acks or t - since ≥ patience: Committed, COMMIT to all
three_phase_end nodes patience t (phases.Precommitting acked) turn =
    if has_participants nodes acked || is_time_out patience t turn.state.since
    then commit_announce nodes phases.Committed notes.Commit turn
    else turn
three_phase_end nodes patience t phase turn = turn

-- a participant and a letter, by its phase, the note and its vote
abbrev pub three_phase_join : ℕ → Phase → Note → Bool → Turn → Turn
-- Prepared, PRECOMMIT: Precommitted, since = t, ACK to 0
three_phase_join t phases.Prepared notes.Precommit vote turn = tell 0 notes.Ack (commit_enter phases.Precommitted t turn)
-- Precommitted, COMMIT: Committed
three_phase_join t phases.Precommitted notes.Commit vote turn = in_phase phases.Committed turn
-- Precommitted, ABORT: nothing
three_phase_join t phases.Precommitted notes.Abort vote turn = turn
three_phase_join t phase note vote turn = commit_participate t phase note vote turn

-- a participant after the inbox, by phase
abbrev pub three_phase_wait : ℕ → ℕ → Phase → Turn → Turn
-- Prepared, t - since ≥ patience: Aborted, sends nothing
three_phase_wait patience t phases.Prepared turn =
    if is_time_out patience t turn.state.since then in_phase phases.Aborted turn else turn
-- Precommitted, t - since ≥ patience: Committed, sends nothing
three_phase_wait patience t phases.Precommitted turn =
    if is_time_out patience t turn.state.since then in_phase phases.Committed turn else turn
three_phase_wait patience t phase turn = turn

-- a step
abbrev pub three_phase_step : ℕ → ℕ → List Bool → ℕ → ℕ → Progress → List (Letter Note) → Turn
three_phase_step nodes patience votes node t own inbox =
    commit_step
    (λ turn letter. three_phase_hear turn.state.phase letter.from letter.note turn) (λ turn. three_phase_end nodes patience t turn.state.phase turn)
    (λ vote turn letter. three_phase_join t turn.state.phase letter.note vote turn) (λ turn. three_phase_wait patience t turn.state.phase turn)
    nodes votes node t own inbox
