-- Where a run first differs from another of the same world.
use Rattle.std.specs.Prelude.{ℕ, zero, suc, List, [], length, ◌==◌, if◌then◌else◌}
use Rattle.lf_faults.specs.declared.fault.Parts.{Parts}
use Rattle.lf_sim.specs.Runs.{World}
use Rattle.lf_trace.specs.Words.{Words}
use Rattle.lf_trace.specs.Beside.{node_pair}
use Rattle.lf_trace.specs.Changes.{titled}

-- the first of the texts f 0, f 1, .. up to below n that has anything in it, or the empty text
abbrev pub first_told : (ℕ → List ℕ) → ℕ → List ℕ
first_told f zero = []
first_told f (suc n) = if length (first_told f n) == 0 then f n else first_told f n

module _ {S N F : Type 0} (words : Words S N) (w : World S N F) (other faults : List Parts) where
  -- the lines of the first node whose words differ after the step
  abbrev pub first_pair : ℕ → List ℕ
  first_pair t = first_told (node_pair words w other faults t) w.rules.nodes

  -- the same under the number of the step
  abbrev pub first_lines : ℕ → List ℕ
  first_lines t = titled t (first_pair t)

  -- those of the first step after which a node's words differ
  abbrev pub first_difference : List ℕ
  first_difference = first_told (λ past. first_lines (suc past)) w.horizon
