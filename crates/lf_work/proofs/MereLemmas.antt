-- That something was found of a set is kept as a mere fact. What was found can be had again from it, since there is one.
use mathlib.Core.List.{is_set}
use mathlib.Core.Logic.{∥∥₁_elim, ∥∥₁_map}
use mathlib.Core.Sum.{⊎_set}
use Rattle.std.proofs.Common.{◌≡◌, ℕ, List, refl, sym, ◌∙◌, subst}
use Rattle.std.proofs.Math.Bool.{Bool-set}
use Rattle.std.proofs.Math.Nat.{ℕ_set}
use Rattle.std.specs.Coded.{le_prop}
use Rattle.std.specs.Prelude.{Option, None, Some}
use Rattle.lf_faults.specs.declared.fault.Parts.{Parts}
use Rattle.lf_faults.specs.declared.spec.Bounds.{Bounds}
use Rattle.lf_sim.specs.Runs.{World}
use Rattle.lf_outcome.specs.declared.formula.Formula.{Formula}
use Rattle.lf_outcome.specs.declared.point.Point.{Point}
use Rattle.lf_outcome.specs.Evidence.{evidence_of}
use Rattle.lf_outcome.proofs.Laws.{evidence-points}
use Rattle.lf_cone.specs.Cones.{AreRequired}
use Rattle.lf_cone.proofs.Laws.{sharp_exists, required_one, required_exist}
use Rattle.lf_certificate.specs.Grown.{IsReachFor}
use Rattle.lf_marks.specs.Steps.{Mark}
use Rattle.lf_marks.specs.Steps as mark
use Rattle.lf_certificate.specs.Found.{IsFound}
use Rattle.lf_work.proofs.FoundLemmas.{reach-one}

reaches_set : IsSet (List ℕ)
reaches_set = is_set ℕ_set

parts_set : IsSet Parts
parts_set = hlevel (ℕ_set, ⊎_set)

faults_set : IsSet (List Parts)
faults_set = is_set parts_set

no-points : {A : Type 0} (x : A) → None ≡ Some x → ⊥
no-points x h = cc

module _ {State Note Fact : Type 0} (w : World State Note Fact) (b : Bounds) (formula : Formula Fact) (faults excluded : List Parts) where
  module _ (reach : List ℕ) (mere : ∥ IsReachFor w b formula faults reach ∥₁) where
    reach-from : (o : Option (List Point)) → evidence_of w faults formula ≡ o → IsReachFor w b formula faults reach
    reach-from None is = absurd (∥∥₁_elim mere (λ x y. absurd x) (λ r. no-points r.0 (sym is ∙ r.1)))
    reach-from (Some points) is =
        let made = sharp_exists w faults points (λ p c. let at = evidence-points w faults formula points is p c in (at.0, at.2)) in
        let here : IsReachFor w b formula faults made.0 = (points, is, made.1) in
        subst (IsReachFor w b formula faults)
        (∥∥₁_elim mere (reaches_set made.0 reach) (λ r. reach-one w b formula faults excluded made.0 reach here r)) here

    reach-again : IsReachFor w b formula faults reach
    reach-again = reach-from (evidence_of w faults formula) refl

  edges-again : (reach : List ℕ) (edges : List Parts) → ∥ AreRequired w faults b reach excluded edges ∥₁ → AreRequired w faults b reach excluded edges
  edges-again reach edges mere =
      let made = required_exist w faults b reach excluded in
      subst (AreRequired w faults b reach excluded)
      (∥∥₁_elim mere (faults_set made.0 edges) (λ are. required_one w faults b reach excluded made.0 edges made.1 are)) made.1

  pub found-again : (m : Mark) → ∥ IsFound w b formula faults excluded m ∥₁ → IsFound w b formula faults excluded m
  found-again mark.Waiting mere = ∥∥₁_elim mere (λ x y. absurd x) (λ h. h)
  found-again mark.Open mere = ∥∥₁_elim mere (λ x y. absurd x) (λ h. h)
  found-again (mark.Claimed t) mere = ∥∥₁_elim mere (λ x y. absurd x) (λ h. h)
  found-again mark.Misses mere = ∥∥₁_elim mere (hlevel Bool-set) (λ h. h)
  found-again mark.Reaches mere = record {
    full = ∥∥₁_elim mere le_prop (λ h. h.full);
    reaching = ∥∥₁_elim mere (hlevel Bool-set) (λ h. h.reaching);
  }
  found-again (mark.Branch reach edges) mere = record {
    room = ∥∥₁_elim mere (hlevel le_prop) (λ h. h.room);
    sharp = reach-again reach (∥∥₁_map mere (λ h. h.sharp));
    required = edges-again reach edges (∥∥₁_map mere (λ h. h.required));
  }
