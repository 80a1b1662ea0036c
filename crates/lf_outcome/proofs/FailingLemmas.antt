-- The first of numbers.
use Rattle.std.proofs.Common.{◌≡◌, ℕ, zero, suc, ◌+◌, ◌<◌, Bool, true, false, refl, sym, ap, ◌∙◌, arith, inl, inr, add-one}
use Rattle.std.specs.Prelude.{None, Some}
use Rattle.std.proofs.lemmas.Bool.{cases_lt}
use Rattle.lf_outcome.specs.Failing.{first_below, or_here}

-- the first of numbers, as a loop finds it that tests each
module _ (p : ℕ → Bool) (n : ℕ) where
  stays : first_below p (suc n) ≡ Some n → (m : ℕ) → n < m → first_below p m ≡ Some n
  stays here zero within = absurd (omega (arith, within))
  stays here (suc m) within = elim (cases_lt n m) [
    | inl earlier ↦ ap (λ found. or_here found (p m) m) (stays here m earlier)
    | inr last ↦ let same : m ≡ n = omega (arith, last, within) in ap (λ k. first_below p (suc k)) same ∙ here
  ]

  module _ (b : Bool) (none : first_below p n ≡ None) (tested : b ≡ p n) where
    pub none_more : b ≡ false → first_below p (n + 1) ≡ None
    none_more fails =
        let same : p n ≡ false = sym tested ∙ fails in
        rw (add-one, none, same) refl

    pub first_found : b ≡ true → (m : ℕ) → n < m → Some n ≡ first_below p m
    first_found holds m within =
        let same : p n ≡ true = sym tested ∙ holds in
        let here : first_below p (suc n) ≡ Some n = rw (none, same) refl in
        sym (stays here m within)

  pub none_found : (m : ℕ) → first_below p n ≡ None → n ≡ m → None ≡ first_below p m
  none_found m none all = sym none ∙ ap (first_below p) all
