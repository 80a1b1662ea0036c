-- The table of two_phase, rule by rule. The rules that it shares with three_phase stand in CommitTable.
use Rattle.std.specs.Prelude.{ℕ, Bool, List}
use Rattle.lf_sim.specs.declared.letter.Letter.{Letter}
use Rattle.lf_protocols.specs.declared.note.Note.{Note}
use Rattle.lf_protocols.specs.declared.note.Note.TheVariants as notes
use Rattle.lf_protocols.specs.declared.state.Progress.{Progress}
use Rattle.lf_protocols.specs.declared.state.Phase.{Phase}
use Rattle.lf_protocols.specs.declared.state.Phase.TheVariants as phases
use Rattle.lf_protocols.specs.CommitTable.{Turn, commit_announce, commit_poll, commit_end_poll, commit_participate, commit_step}

-- node 0 after the inbox, by phase
abbrev pub two_phase_end : ℕ → ℕ → ℕ → Phase → Turn → Turn
-- Voting, all yes: Committed, COMMIT to all
two_phase_end nodes patience t (phases.Voting agreed refused) turn =
    commit_end_poll nodes patience t agreed refused turn (commit_announce nodes phases.Committed notes.Commit turn)
two_phase_end nodes patience t phase turn = turn

-- a step: the letters by the shared rules alone, and a participant has no time-out
abbrev pub two_phase_step : ℕ → ℕ → List Bool → ℕ → ℕ → Progress → List (Letter Note) → Turn
two_phase_step nodes patience votes node t own inbox =
    commit_step
    (λ turn letter. commit_poll turn.state.phase letter.from letter.note turn) (λ turn. two_phase_end nodes patience t turn.state.phase turn)
    (λ vote turn letter. commit_participate t turn.state.phase letter.note vote turn) (λ turn. turn)
    nodes votes node t own inbox
