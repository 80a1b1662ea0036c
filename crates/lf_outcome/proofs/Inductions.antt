-- Induction on formulas.
use Rattle.std.proofs.Common.{ℕ, Bool, List, [], ◌∷◌, sym, subst, map}
use Rattle.std.specs.List.{AllByRecursion}
use Rattle.lf_outcome.specs.declared.formula.Formula.{Formula}
use Rattle.lf_outcome.specs.declared.formula.Formula.TheVariants.{rolls-All, rolls-Any, rolls-Down, rolls-One, rolls-Over, rolls-Shows}
use Rattle.lf_outcome.specs.declared.formula.Formula.TheVariants as kind
use Rattle.lf_outcome.specs.declared.formula.Formula.TheOpen.{Formula-F}
use Rattle.lf_outcome.specs.declared.formula.Formula.TheFolds.{ind-Formula, map-Formula}
use Rattle.lf_outcome.specs.declared.formula.Formula.TheViews.{roll-Formula}

-- what holds of a formula of which it holds of each part, by kind
pub record Steps {Fact : Type 0} (Q : Formula Fact → Type 0) : Type 0 where
  pub all : (parts : List (Formula Fact)) → AllByRecursion Q parts → Q (kind.All parts)
  pub any : (parts : List (Formula Fact)) → AllByRecursion Q parts → Q (kind.Any parts)
  pub down : (n t : ℕ) → Q (kind.Down n t)
  pub shows : (n t : ℕ) (fact : Fact) → Q (kind.Shows n t fact)
  pub one : (nodes last topic : ℕ) → Q (kind.One nodes last topic)
  pub over : (every : Bool) (first last : ℕ) (parts : List (Formula Fact)) → AllByRecursion Q parts → Q (kind.Over every first last parts)

module _ {Fact : Type 0} (Q : Formula Fact → Type 0) where
  each : (proved : List ((f : Formula Fact) × Q f)) → AllByRecursion Q (map (λ e. e.0) proved)
  each [] = tt
  each (e ∷ es) = (e.1, each es)

  -- one level, with a proof beside each part
  layer : Steps Q → (y : Formula-F Fact ((f : Formula Fact) × Q f))
      → Q (roll-Formula Fact (map-Formula Fact ((f : Formula Fact) × Q f) (Formula Fact) (λ e. e.0) y))
  layer steps (Formula-F.All proved) =
      subst Q (sym (rolls-All (map (λ e. e.0) proved))) (steps.all (map (λ e. e.0) proved) (each proved))
  layer steps (Formula-F.Any proved) =
      subst Q (sym (rolls-Any (map (λ e. e.0) proved))) (steps.any (map (λ e. e.0) proved) (each proved))
  layer steps (Formula-F.Down n t) = subst Q (sym (rolls-Down n t)) (steps.down n t)
  layer steps (Formula-F.Shows n t fact) = subst Q (sym (rolls-Shows n t fact)) (steps.shows n t fact)
  layer steps (Formula-F.One nodes last topic) = subst Q (sym (rolls-One nodes last topic)) (steps.one nodes last topic)
  layer steps (Formula-F.Over every first last proved) =
      subst Q (sym (rolls-Over every first last (map (λ e. e.0) proved)))
      (steps.over every first last (map (λ e. e.0) proved) (each proved))

  pub by_induction : Steps Q → (f : Formula Fact) → Q f
  by_induction steps = ind-Formula Fact Q (λ x y is. subst (λ z. Q (roll-Formula Fact z)) is (layer steps y))
