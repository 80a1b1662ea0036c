-- The ranges of what is read.
use Rattle.std.specs.Prelude.{◌≡◌, ℕ, ◌≤◌, Bool, List}
use Rattle.lf_faults.specs.Allowed.{IsInLimits}
use Rattle.lf_protocols.specs.Limits.{IsCommit, IsWithinLimits}
use Rattle.lf_protocols.specs.Protocols.{nodes_of}
use Rattle.lf_outcome.specs.Limits.{most_sets}
use Rattle.lf_scenario.specs.declared.reading.Delays.{Delays}
use Rattle.lf_scenario.specs.declared.reading.Described.{Described}

pub record AreDelays (delays : Delays) : Type 0 where
  pub least : (1 ≤ delays.least) × (delays.least ≤ 16)
  pub spread : delays.spread ≤ 15

-- the votes of a commit among so many nodes, whatever its patience
abbrev pub AreVotes : ℕ → List Bool → Type 0
AreVotes nodes votes = (patience : ℕ) → 1 ≤ patience → patience ≤ 48 → IsCommit nodes patience votes

pub record IsInRange (described : Described) : Type 0 where
  pub bounds : IsInLimits described.bounds
  pub delays : AreDelays described.delays
  pub limits : IsWithinLimits described.protocol
  pub nodes : nodes_of described.protocol ≡ described.bounds.nodes
  pub max_sets : (1 ≤ described.max_sets) × (described.max_sets ≤ most_sets)
