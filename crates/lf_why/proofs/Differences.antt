-- How a run differs from that without one of its faults, by the cases of the code.
use Rattle.std.proofs.Common.{◌≡◌, ℕ, Bool, true, false, List, length, ◌==◌, sym, ap, ◌∙◌, cond}
use Rattle.lf_trace.specs.Elsewhere.{elsewhere, told_or}
use Rattle.lf_trace.specs.First.{first_difference}
use Rattle.lf_faults.specs.declared.fault.Parts.{Parts}
use Rattle.lf_outcome.specs.declared.formula.Formula.{Formula}
use Rattle.lf_sim.specs.Runs.{World}
use Rattle.lf_trace.specs.Words.{Words}
use Rattle.lf_why.specs.Sets.{difference, failing_step, stop_difference, stops_at, without}

module _ {S N F : Type 0} (words : Words S N) (w : World S N F) (formula : Formula F) (set fewer : List Parts) where
  -- with what is told elsewhere, tested for being empty
  module _ (limit : ℕ) (told : List ℕ) (empty : Bool) (same : limit ≡ failing_step w set formula) (is : told ≡ elsewhere words w fewer set limit)
      (tested : empty ≡ (length told == 0)) where
    there : told ≡ elsewhere words w fewer set (failing_step w set formula)
    there = is ∙ ap (elsewhere words w fewer set) same

    by_cases : (b : Bool) → empty ≡ b → stop_difference words w formula set fewer ≡ cond b (first_difference words w fewer set) told
    by_cases b says =
        ap (λ (lines : List ℕ). told_or lines (first_difference words w fewer set)) (sym there)
        ∙ ap (λ c. cond c (first_difference words w fewer set) told) (sym tested ∙ says)

    pub nothing_else : empty ≡ true → first_difference words w fewer set ≡ stop_difference words w formula set fewer
    nothing_else says = sym (by_cases true says)

    pub told_elsewhere : empty ≡ false → told ≡ stop_difference words w formula set fewer
    told_elsewhere says = sym (by_cases false says)

  -- with the test of what the fault does
  module _ (place : ℕ) (stopped : Bool) (same : fewer ≡ without set place) (tested : stopped ≡ stops_at set place) where
    by_kind : (b : Bool) → stopped ≡ b
        → difference words w formula set place ≡ cond b (stop_difference words w formula set fewer) (first_difference words w fewer set)
    by_kind b says =
        ap (λ c. cond c (stop_difference words w formula set (without set place)) (first_difference words w (without set place) set)) (sym tested ∙ says)
        ∙ ap (λ (rest : List Parts). cond b (stop_difference words w formula set rest) (first_difference words w rest set)) (sym same)

    pub of_stop : stopped ≡ true → stop_difference words w formula set fewer ≡ difference words w formula set place
    of_stop says = sym (by_kind true says)

    pub of_omission : stopped ≡ false → first_difference words w fewer set ≡ difference words w formula set place
    of_omission says = sym (by_kind false says)
