-- What crates above may build on, in the words of specs/.
use Rattle.std.proofs.Common.{◌≡◌, ℕ, ◌≤◌, true, List, length}
use Rattle.lf_faults.specs.declared.fault.Parts.{Parts}
use Rattle.lf_faults.specs.declared.spec.Bounds.{Bounds}
use Rattle.lf_faults.specs.Allowed.{IsInLimits}
use Rattle.lf_sim.specs.Runs.{World}
use Rattle.lf_outcome.specs.declared.formula.Formula.{Formula}
use Rattle.lf_outcome.specs.Truth.{reaches}
use Rattle.lf_cone.specs.Cones.{AreRequired}
use Rattle.lf_marks.specs.Steps.{Mark, IsAnswer}
use Rattle.lf_marks.specs.Steps as mark
use Rattle.lf_certificate.specs.Found.{IsFound}
use Rattle.lf_work.proofs.FoundLemmas as lemmas

module _ {State Note Fact : Type 0} (w : World State Note Fact) (b : Bounds) (formula : Formula Fact) (faults excluded : List Parts) where
  -- whoever works a set where the same faults are excluded finds the same of it,
  pub found_one : (m n : Mark) → IsFound w b formula faults excluded m → IsFound w b formula faults excluded n → m ≡ n
  found_one = lemmas.found-one w b formula faults excluded

  -- it is an answer,
  pub found_answer : (m : Mark) → IsFound w b formula faults excluded m → IsAnswer m
  found_answer = lemmas.found-answer w b formula faults excluded

  -- and a set of which a branch is found reaches the outcome
  pub branch_reaches : (reach : List ℕ) (edges : List Parts) → IsFound w b formula faults excluded (mark.Branch reach edges)
      → reaches w faults formula ≡ true
  branch_reaches = lemmas.branch-reaches w b formula faults excluded

-- There are at most 9,408 required edges
pub few_edges : {State Note Fact : Type 0} (w : World State Note Fact) (b : Bounds) (faults : List Parts) (reach : List ℕ)
    (excluded edges : List Parts) → IsInLimits b → AreRequired w faults b reach excluded edges → length edges ≤ 9408
few_edges = lemmas.few-required
