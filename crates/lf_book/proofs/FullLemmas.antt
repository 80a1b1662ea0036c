-- A book keeps as a mere fact that it is closed. What follows of levels that are too full holds again, since there is one proof of it at most.
use mathlib.Core.Logic.{∥∥₁_elim}
use Rattle.std.proofs.Common.{◌≡◌, ℕ, true}
use Rattle.lf_faults.specs.declared.spec.Bounds.{Bounds}
use Rattle.lf_sim.specs.Runs.{World}
use Rattle.lf_outcome.specs.declared.formula.Formula.{Formula}
use Rattle.lf_certificate.specs.Accepted.{IsBounded}
use Rattle.lf_certificate.specs.Closed.{IsClosed}
use Rattle.lf_certificate.specs.Levels.{IsFullAt}
use Rattle.lf_certificate.specs.States.{State}
use Rattle.lf_certificate.proofs.Laws.{finds_never_full}

pub is_never_full : {Local Note Fact : Type 0} (w : World Local Note Fact) (b : Bounds) (formula : Formula Fact) (most : ℕ) (s : State)
    → ∥ IsClosed w b formula most s ∥₁ → IsBounded w b → s.finished ≡ true → (k count : ℕ) → IsFullAt w b formula most k count → ⊥
is_never_full w b formula most s closed bounded finished k count full =
    ∥∥₁_elim closed (λ x y. absurd x) (λ c. finds_never_full w b formula most s bounded c finished k count full)
