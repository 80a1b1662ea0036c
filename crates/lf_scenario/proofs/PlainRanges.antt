-- A formula in range is one without Over, and so says what it says unfolded.
use Rattle.std.proofs.Common.{◌≡◌, ℕ, ◌≤◌, Bool, true, List, [], ◌∷◌, map, refl, sym, ap, ◌∙◌, subst}
use Rattle.std.specs.List.{list_all}
use Rattle.std.proofs.lemmas.Bool.{and_parts, and_from, false≢true}
use Rattle.lf_faults.specs.declared.spec.Bounds.{Bounds}
use Rattle.lf_protocols.specs.declared.fact.Fact.{Fact}
use Rattle.lf_protocols.specs.declared.protocol.Kind.{Kind}
use Rattle.lf_outcome.specs.declared.formula.Formula.{Formula, fold-roll-Formula}
use Rattle.lf_outcome.specs.declared.formula.Formula.TheOpen.{Formula-F}
use Rattle.lf_outcome.specs.declared.formula.Formula.TheFolds.{ind-Formula, map-Formula}
use Rattle.lf_outcome.specs.declared.formula.Formula.TheViews.{roll-Formula}
use Rattle.lf_outcome.specs.Formulas.{range_step, is_in_range, IsFormulaOf}
use Rattle.lf_outcome.specs.Limits.{deepest, most_atoms}
use Rattle.lf_outcome.specs.Measures.{depth_of, atoms_of}
use Rattle.lf_outcome.specs.Unfolding.{is_plain, plain_step}
use Rattle.lf_outcome.proofs.Laws.{unfolded-plain, depth-unfolded, atoms-unfolded}

module _ (k : Kind) (nodes horizon : ℕ) where
  abbrev in_range : Formula Fact → Bool
  in_range = is_in_range k nodes horizon

  abbrev Plain : Formula Fact → Type 0
  Plain f = in_range f ≡ true → is_plain f ≡ true

  each : (proved : List ((f : Formula Fact) × Plain f)) → list_all (λ b. b) (map in_range (map (λ e. e.0) proved)) ≡ true
      → list_all (λ b. b) (map is_plain (map (λ e. e.0) proved)) ≡ true
  each [] h = refl
  each (e ∷ es) h =
      let both = and_parts (in_range e.0) (list_all (λ b. b) (map in_range (map (λ e. e.0) es))) h in
      and_from (is_plain e.0) (list_all (λ b. b) (map is_plain (map (λ e. e.0) es))) (e.1 both.0) (each es both.1)

  layer : (y : Formula-F Fact ((f : Formula Fact) × Plain f))
      → Plain (roll-Formula Fact (map-Formula Fact ((f : Formula Fact) × Plain f) (Formula Fact) (λ e. e.0) y))
  layer (Formula-F.All proved) h =
      let y = Formula-F.All (map (λ e. e.0) proved) in
      fold-roll-Formula Fact Bool plain_step y ∙ each proved (sym (fold-roll-Formula Fact Bool (range_step k nodes horizon) y) ∙ h)
  layer (Formula-F.Any proved) h =
      let y = Formula-F.Any (map (λ e. e.0) proved) in
      fold-roll-Formula Fact Bool plain_step y ∙ each proved (sym (fold-roll-Formula Fact Bool (range_step k nodes horizon) y) ∙ h)
  layer (Formula-F.Down n t) h = fold-roll-Formula Fact Bool plain_step (Formula-F.Down n t)
  layer (Formula-F.Shows n t fact) h = fold-roll-Formula Fact Bool plain_step (Formula-F.Shows n t fact)
  layer (Formula-F.One many last topic) h = fold-roll-Formula Fact Bool plain_step (Formula-F.One many last topic)
  layer (Formula-F.Over every first last proved) h =
      absurd (false≢true
      (sym (fold-roll-Formula Fact Bool (range_step k nodes horizon) (Formula-F.Over every first last (map (λ e. e.0) proved))) ∙ h))

  range-plain : (f : Formula Fact) → in_range f ≡ true → is_plain f ≡ true
  range-plain = ind-Formula Fact Plain (λ x y is. subst (λ z. Plain (roll-Formula Fact z)) is (layer y))

-- what is asked of a formula as it is written, where it has no Over
pub record IsWritten (k : Kind) (b : Bounds) (formula : Formula Fact) : Type 0 where
  pub range : is_in_range k b.nodes b.horizon formula ≡ true
  pub depth : depth_of formula ≤ deepest
  pub atoms : atoms_of formula ≤ most_atoms

pub written-fits : (k : Kind) (b : Bounds) (f : Formula Fact) → IsWritten k b f → IsFormulaOf k b f
written-fits k b f written = record {
  range = ap (is_in_range k b.nodes b.horizon) (unfolded-plain f (range-plain k b.nodes b.horizon f written.range)) ∙ written.range;
  depth = subst (λ n. n ≤ deepest) (sym (depth-unfolded f 0)) written.depth;
  atoms = subst (λ n. n ≤ most_atoms) (sym (atoms-unfolded f 0)) written.atoms;
}
