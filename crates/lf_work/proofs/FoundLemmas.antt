-- What is found of a set.
use Rattle.std.proofs.Common.{◌≡◌, ℕ, ◌<◌, ◌≤◌, true, false, List, length, refl, sym, ap, ◌∙◌, subst, arith}
use Rattle.std.specs.Prelude.{Option, Some}
use Rattle.std.specs.Option.{is_some}
use Rattle.lf_faults.specs.declared.fault.Parts.{Parts}
use Rattle.lf_faults.specs.declared.spec.Bounds.{Bounds}
use Rattle.lf_faults.specs.Allowed.{IsInLimits}
use Rattle.lf_faults.specs.Faults.{inserted}
use Rattle.lf_faults.proofs.Laws.{in_allowed-admitted, admitted-fault, in-inserted}
use Rattle.lf_sim.specs.Runs.{World}
use Rattle.lf_outcome.specs.declared.formula.Formula.{Formula}
use Rattle.lf_outcome.specs.declared.point.Point.{Point}
use Rattle.lf_outcome.specs.Truth.{reaches}
use Rattle.lf_outcome.proofs.Laws.{evidence-truth}
use Rattle.lf_cone.specs.Cones.{IsSharp, AreRequired}
use Rattle.lf_cone.proofs.Laws.{sharp_one, required_one}
use Rattle.lf_certificate.specs.Grown.{IsReachFor}
use Rattle.lf_marks.specs.Steps.{Mark, IsAnswer}
use Rattle.lf_marks.specs.Steps as mark
use Rattle.lf_certificate.specs.Found.{IsBranch, IsFound}
use Rattle.lf_work.proofs.EdgeLemmas.{few-ascending}

module _ {State Note Fact : Type 0} (w : World State Note Fact) (b : Bounds) (formula : Formula Fact) (faults excluded : List Parts) where
  -- a set with a sharp reach reaches
  reach-reaches : (reach : List ℕ) → IsReachFor w b formula faults reach → reaches w faults formula ≡ true
  reach-reaches reach r = sym (evidence-truth w faults formula) ∙ ap (λ (o : Option (List Point)). is_some o) r.1

  pub branch-reaches : (reach : List ℕ) (edges : List Parts) → IsBranch w b formula faults excluded reach edges → reaches w faults formula ≡ true
  branch-reaches reach edges h = reach-reaches reach h.sharp

  -- a set doesn't both miss and reach
  apart : reaches w faults formula ≡ true → reaches w faults formula ≡ false → ⊥
  apart h k = let never : true ≡ false = sym h ∙ k in cc

  -- nor has it room and none
  full-not : length faults < b.budget → b.budget ≤ length faults → ⊥
  full-not h k = omega (arith, h, k)

  -- two sharp reaches of what the outcome rests on are one
  pub reach-one : (x y : List ℕ) → IsReachFor w b formula faults x → IsReachFor w b formula faults y → x ≡ y
  reach-one x y h k =
      let same : Some h.0 ≡ Some k.0 = sym h.1 ∙ k.1 in
      let points : h.0 ≡ k.0 = cc in
      sharp_one w faults k.0 x y (subst (λ ps. IsSharp w faults ps x) points h.2) k.2

  branch-one : (x y : List ℕ) (es fs : List Parts) → IsBranch w b formula faults excluded x es → IsBranch w b formula faults excluded y fs
      → mark.Branch x es ≡ mark.Branch y fs
  branch-one x y es fs h k =
      let reach : x ≡ y = reach-one x y h.sharp k.sharp in
      let edges : es ≡ fs = required_one w faults b y excluded es fs (subst (λ r. AreRequired w faults b r excluded es) reach h.required) k.required in
      cc

  -- what is found of a set is one
  pub found-one : (m n : Mark) → IsFound w b formula faults excluded m → IsFound w b formula faults excluded n → m ≡ n
  found-one mark.Waiting n h k = absurd h
  found-one mark.Open n h k = absurd h
  found-one (mark.Claimed t) n h k = absurd h
  found-one mark.Misses mark.Waiting h k = absurd k
  found-one mark.Misses mark.Open h k = absurd k
  found-one mark.Misses (mark.Claimed t) h k = absurd k
  found-one mark.Misses mark.Misses h k = refl
  found-one mark.Misses mark.Reaches h k = absurd (apart k.reaching h)
  found-one mark.Misses (mark.Branch reach edges) h k = absurd (apart (branch-reaches reach edges k) h)
  found-one mark.Reaches mark.Waiting h k = absurd k
  found-one mark.Reaches mark.Open h k = absurd k
  found-one mark.Reaches (mark.Claimed t) h k = absurd k
  found-one mark.Reaches mark.Misses h k = absurd (apart h.reaching k)
  found-one mark.Reaches mark.Reaches h k = refl
  found-one mark.Reaches (mark.Branch reach edges) h k = absurd (full-not k.room h.full)
  found-one (mark.Branch x es) mark.Waiting h k = absurd k
  found-one (mark.Branch x es) mark.Open h k = absurd k
  found-one (mark.Branch x es) (mark.Claimed t) h k = absurd k
  found-one (mark.Branch x es) mark.Misses h k = absurd (apart (branch-reaches x es h) k)
  found-one (mark.Branch x es) mark.Reaches h k = absurd (full-not h.room k.full)
  found-one (mark.Branch x es) (mark.Branch y fs) h k = branch-one x y es fs h k

  -- and it is an answer
  pub found-answer : (m : Mark) → IsFound w b formula faults excluded m → IsAnswer m
  found-answer mark.Waiting h = absurd h
  found-answer mark.Open h = absurd h
  found-answer (mark.Claimed t) h = absurd h
  found-answer mark.Misses h = tt
  found-answer mark.Reaches h = tt
  found-answer (mark.Branch reach edges) h = tt

-- required edges are few
pub few-required : {State Note Fact : Type 0} (w : World State Note Fact) (b : Bounds) (faults : List Parts) (reach : List ℕ)
    (excluded edges : List Parts) → IsInLimits b → AreRequired w faults b reach excluded edges → length edges ≤ 9408
few-required w b faults reach excluded edges limits are =
    few-ascending edges are.ascending (λ f c. admitted-fault b f limits
    (in_allowed-admitted b (inserted f faults) f ((are.each f).0 c).allowed.1 (in-inserted f faults)))
