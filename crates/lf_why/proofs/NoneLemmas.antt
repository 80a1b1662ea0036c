-- What stands behind `none`.
use Rattle.std.proofs.Common.{◌≡◌, ℕ, Bool, true, false, not, List, [], refl, sym, ap, ◌∙◌, subst}
use Rattle.std.specs.Prelude.{Option, None, Some}
use Rattle.std.specs.Option.{is_some}
use Rattle.lf_certificate.specs.Grown.{IsReachFor, IsTreeOf}
use Rattle.lf_cone.specs.Cones.{IsSharp}
use Rattle.lf_faults.specs.declared.fault.Parts.{Parts}
use Rattle.lf_faults.specs.declared.spec.Bounds.{Bounds}
use Rattle.lf_faults.specs.Allowed.{IsFirst}
use Rattle.lf_faults.proofs.Laws.{empty_allowed}
use Rattle.lf_outcome.specs.declared.formula.Formula.{Formula}
use Rattle.lf_outcome.specs.declared.point.Point.{Point}
use Rattle.lf_outcome.specs.Evidence.{evidence_of}
use Rattle.lf_outcome.specs.Truth.{reaches}
use Rattle.lf_sim.specs.Runs.{World}
use Rattle.lf_tree.specs.declared.tree.Tree.{Tree}

reached : (b : Bool) → not b ≡ false → b ≡ true
reached true is = refl
reached false is = let never : true ≡ false = is in cc

module _ {State Note Fact : Type 0} (w : World State Note Fact) (b : Bounds) (formula : Formula Fact) where
  -- where there is no answer, the run without faults reaches
  pub none_reaches : (tree : Tree) → IsTreeOf w b formula tree → tree.answer ≡ None → reaches w [] formula ≡ true
  none_reaches tree grown none =
      let first : IsFirst b (λ faults. not (reaches w faults formula)) None =
      subst (IsFirst b (λ faults. not (reaches w faults formula))) none grown.answer in
      reached (reaches w [] formula) (first [] (empty_allowed b))

  -- so it rests on something
  pub rests : (faults : List Parts) (found : Option (List Point)) → faults ≡ [] → is_some found ≡ reaches w faults formula → found ≡ None
      → reaches w [] formula ≡ true → ⊥
  rests faults found same truth none holds =
      let never : false ≡ true = ap is_some (sym none) ∙ truth ∙ ap (λ set. reaches w set formula) same ∙ holds in cc

  pub reach_is : (faults : List Parts) (points : List Point) (found : Option (List Point)) (reach : List ℕ) → faults ≡ [] → found ≡ evidence_of w faults formula
      → found ≡ Some points → IsSharp w faults points reach → IsReachFor w b formula [] reach
  reach_is faults points found reach same rests is sharp =
      subst (λ set. IsReachFor w b formula set reach) same (points, sym rests ∙ is, sharp)
