-- Which rules a node takes at a step of a run.
use Rattle.std.specs.Prelude.{ℕ, ◌+◌, Bool, if◌then◌else◌, List, []}
use Rattle.lf_faults.specs.declared.fault.Parts.{Parts}
use Rattle.lf_faults.specs.Faults.{set_wakes}
use Rattle.lf_sim.specs.declared.letter.Letter.{Letter}
use Rattle.lf_sim.specs.Runs.{World, is_up, view, inbox}
use Rattle.lf_protocols.specs.declared.fact.Fact.{Fact}
use Rattle.lf_protocols.specs.declared.note.Note.{Note}
use Rattle.lf_protocols.specs.declared.state.State.{State}
use Rattle.lf_protocols.specs.declared.state.State.TheVariants as states
use Rattle.lf_protocols.specs.declared.protocol.Kind.{Kind}
use Rattle.lf_protocols.specs.declared.protocol.Kind.TheVariants as kinds
use Rattle.lf_taken.specs.Turns.{taken_in_turn}

-- by a node that wakes or doesn't, from its state and its inbox: none where the protocol isn't one of rules
abbrev pub taken_by : Kind → ℕ → ℕ → Bool → State → List (Letter Note) → List ℕ
taken_by (kinds.Ruled m) n t wakes (states.Ruled own) inbox = taken_in_turn m n t wakes own inbox
taken_by k n t wakes other inbox = []

module _ (k : Kind) (w : World State Note Fact) (faults : List Parts) where
  -- by n, which is up, at the step after t
  abbrev pub taken_up : ℕ → ℕ → List ℕ
  taken_up n t = taken_by k n (t + 1) (set_wakes w.pause_length faults n (t + 1)) (view w faults n t) (inbox w faults n (t + 1))

  -- by n at the step after t: none where it isn't up
  abbrev pub taken_after : ℕ → ℕ → List ℕ
  taken_after n t = if is_up w faults n (t + 1) then taken_up n t else []
