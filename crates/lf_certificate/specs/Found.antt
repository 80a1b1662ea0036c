-- What the run of a set of faults shows.
use Rattle.std.specs.Prelude.{◌≡◌, ℕ, ◌<◌, ◌≤◌, true, false, List, length}
use Rattle.lf_faults.specs.declared.fault.Parts.{Parts}
use Rattle.lf_faults.specs.declared.spec.Bounds.{Bounds}
use Rattle.lf_sim.specs.Runs.{World}
use Rattle.lf_outcome.specs.declared.formula.Formula.{Formula}
use Rattle.lf_outcome.specs.Truth.{reaches}
use Rattle.lf_cone.specs.Cones.{AreRequired}
use Rattle.lf_certificate.specs.Grown.{IsReachFor}
use Rattle.lf_marks.specs.Steps.{Mark}
use Rattle.lf_marks.specs.Steps as mark

module _ {State Note Fact : Type 0} (w : World State Note Fact) (b : Bounds) (formula : Formula Fact) where
  -- the set reaches and has room for more faults: the reach is the sharp one, and the edges are those that are required, where some
  -- faults are excluded
  pub record IsBranch (faults excluded : List Parts) (reach : List ℕ) (edges : List Parts) : Type 0 where
    pub room : length faults < b.budget
    pub sharp : IsReachFor w b formula faults reach
    pub required : AreRequired w faults b reach excluded edges

  -- the set reaches, and has as many faults as the budget
  pub record IsLast (faults : List Parts) : Type 0 where
    pub full : b.budget ≤ length faults
    pub reaching : reaches w faults formula ≡ true

  -- the mark is what the run of the set shows, where some faults are excluded beneath it
  abbrev pub IsFound : List Parts → List Parts → Mark → Type 0
  IsFound faults excluded mark.Waiting = ⊥
  IsFound faults excluded mark.Open = ⊥
  IsFound faults excluded (mark.Claimed t) = ⊥
  IsFound faults excluded mark.Misses = reaches w faults formula ≡ false
  IsFound faults excluded mark.Reaches = IsLast faults
  IsFound faults excluded (mark.Branch reach edges) = IsBranch faults excluded reach edges
