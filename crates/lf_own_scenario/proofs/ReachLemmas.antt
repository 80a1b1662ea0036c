-- When the formulas of promises, which have no Over, are true in a run, by their kind.
use Rattle.std.proofs.Common.{◌≡◌, ℕ, Bool, not, ◌&&◌, ◌||◌, List, [], ◌∷◌, refl, sym, ap, ◌∙◌, map}
use Rattle.std.specs.List.{list_all, list_any}
use Rattle.std.proofs.lemmas.List.Folds.{list_all-map}
use Rattle.lf_faults.specs.declared.fault.Parts.{Parts}
use Rattle.lf_protocols.specs.declared.fact.Fact.{Fact}
use Rattle.lf_sim.specs.Runs.{World, is_up, view}
use Rattle.lf_outcome.specs.declared.formula.Formula.{Formula, fold-roll-Formula}
use Rattle.lf_outcome.specs.declared.formula.Formula.TheVariants.{rolls-All, rolls-Any, rolls-Down, rolls-Shows, rolls-One}
use Rattle.lf_outcome.specs.declared.formula.Formula.TheVariants as kind
use Rattle.lf_outcome.specs.declared.formula.Formula.TheOpen.{Formula-F}
use Rattle.lf_outcome.specs.Truth.{truth, truth_step, is_down, is_shown, is_single, reaches}
use Rattle.lf_outcome.specs.Unfolding.{unfold_at}
use Rattle.lf_outcome.proofs.Laws.{unfold-All, unfold-Any, unfold-Down, unfold-Shows, unfold-One, later-none}

list_any-map : {X Y : Type 0} (p : X → Bool) (h : Y → X) (ys : List Y) → list_any p (map h ys) ≡ list_any (λ y. p (h y)) ys
list_any-map p h [] = refl
list_any-map p h (y ∷ ys) = ap (λ b. p (h y) || b) (list_any-map p h ys)

module _ {State Note : Type 0} (w : World State Note Fact) (faults : List Parts) where
  abbrev is_so : Formula Fact → Bool
  is_so = truth (is_down w faults) (is_shown w faults) (is_single w faults)

  abbrev by_kind : Formula-F Fact Bool → Bool
  by_kind = truth_step (is_down w faults) (is_shown w faults) (is_single w faults)

  pub reach-All : (fs : List (Formula Fact)) → reaches w faults (kind.All fs) ≡ list_all (reaches w faults) fs
  reach-All fs =
      let said = map (λ (f : Formula Fact). unfold_at f 0) fs in
      ap is_so (unfold-All fs 0) ∙ ap is_so (sym (rolls-All said)) ∙ fold-roll-Formula Fact Bool by_kind (Formula-F.All said)
      ∙ list_all-map (λ b. b) is_so said ∙ list_all-map is_so (λ (f : Formula Fact). unfold_at f 0) fs

  pub reach-Any : (fs : List (Formula Fact)) → reaches w faults (kind.Any fs) ≡ list_any (reaches w faults) fs
  reach-Any fs =
      let said = map (λ (f : Formula Fact). unfold_at f 0) fs in
      ap is_so (unfold-Any fs 0) ∙ ap is_so (sym (rolls-Any said)) ∙ fold-roll-Formula Fact Bool by_kind (Formula-F.Any said)
      ∙ list_any-map (λ b. b) is_so said ∙ list_any-map is_so (λ (f : Formula Fact). unfold_at f 0) fs

  pub reach-Down : (n t : ℕ) → reaches w faults (kind.Down n t) ≡ not (is_up w faults n t)
  reach-Down n t =
      ap is_so (unfold-Down n t 0 ∙ ap (kind.Down n) (later-none t)) ∙ ap is_so (sym (rolls-Down n t))
      ∙ fold-roll-Formula Fact Bool by_kind (Formula-F.Down n t)

  pub reach-Shows : (n t : ℕ) (f : Fact) → reaches w faults (kind.Shows n t f) ≡ (is_up w faults n t && w.rules.shows n (view w faults n t) f)
  reach-Shows n t f =
      ap is_so (unfold-Shows n t f 0 ∙ ap (λ u. kind.Shows n u f) (later-none t)) ∙ ap is_so (sym (rolls-Shows n t f))
      ∙ fold-roll-Formula Fact Bool by_kind (Formula-F.Shows n t f)

  pub reach-One : (nodes last topic : ℕ) → reaches w faults (kind.One nodes last topic) ≡ is_single w faults nodes last topic
  reach-One nodes last topic =
      ap is_so (unfold-One nodes last topic 0) ∙ ap is_so (sym (rolls-One nodes last topic))
      ∙ fold-roll-Formula Fact Bool by_kind (Formula-F.One nodes last topic)
