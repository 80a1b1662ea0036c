-- In which runs something is entered under a topic.
use Rattle.std.specs.Prelude.{ℕ, ◌<◌, ◌≤◌, Bool, List, is_some, IsSome}
use Rattle.std.specs.List.{list_any, range_with_len}
use Rattle.lf_faults.specs.declared.fault.Parts.{Parts}
use Rattle.lf_outcome.specs.Truth.{entered}
use Rattle.lf_protocols.specs.declared.fact.Fact.{Fact}
use Rattle.lf_protocols.specs.declared.note.Note.{Note}
use Rattle.lf_protocols.specs.declared.state.State.{State}
use Rattle.lf_sim.specs.Runs.{World}

module _ (w : World State Note Fact) (faults : List Parts) (topic : ℕ) where
  -- whether n enters something under the topic after some step of the run of these faults
  abbrev pub is_entered_by : ℕ → Bool
  is_entered_by n = list_any (λ t. is_some (entered w faults topic n t)) (range_with_len 1 w.horizon)

  -- whether some node does
  unfoldable pub is_entered_in : Bool
  is_entered_in = list_any is_entered_by (range_with_len 0 w.rules.nodes)

  -- some node enters something under the topic after some step of the run
  pub record IsEntered : Type 0 where
    pub node : ℕ
    pub step : ℕ
    pub is_node : node < w.rules.nodes
    pub first : 1 ≤ step
    pub last : step ≤ w.horizon
    pub entry : IsSome (entered w faults topic node step)
