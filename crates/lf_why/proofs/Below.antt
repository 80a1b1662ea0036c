-- A test of the numbers below one.
use Rattle.std.proofs.Common.{◌≡◌, ℕ, ◌+◌, ◌<◌, Bool, true, false, inl, inr, refl, sym, ap, ◌∙◌, arith, zero-add}
use Rattle.std.specs.List.{list_all, range_with_len}
use Rattle.std.proofs.lemmas.Bool.{cases_lt}
use Rattle.std.proofs.lemmas.List.FromFn.{get_or-range_with_len, length-range_with_len}
use Rattle.std.proofs.lemmas.List.Sums.{AllPass-from_list_all, list_all-from_AllPass}

no_more : (a b : Bool) → (a ≡ true → b ≡ true) → b ≡ false → a ≡ false
no_more true b to e = sym (to refl) ∙ e
no_more false b to e = refl

module _ (p : ℕ → Bool) where
  pub each : (n : ℕ) → list_all p (range_with_len 0 n) ≡ true → (k : ℕ) → k < n → p k ≡ true
  each n h k below =
      let size = length-range_with_len 0 n in
      ap p (sym (get_or-range_with_len 0 n k 0 below ∙ zero-add k))
      ∙ AllPass-from_list_all p (range_with_len 0 n) h k 0 (omega (arith, below, size))

  pub every : (n : ℕ) → ((k : ℕ) → k < n → p k ≡ true) → list_all p (range_with_len 0 n) ≡ true
  every n h =
      let size = length-range_with_len 0 n in
      list_all-from_AllPass p (range_with_len 0 n) (λ k d below.
      let within : k < n = omega (arith, below, size) in ap p (get_or-range_with_len 0 n k d within ∙ zero-add k) ∙ h k within)

  -- one more
  pub more : (n : ℕ) (b : Bool) → ((k : ℕ) → k < n → p k ≡ true) → b ≡ p n → b ≡ true → (k : ℕ) → k < n + 1 → p k ≡ true
  more n b h tested passes k below = elim (cases_lt k n) [
    | inl before ↦ h k before
    | inr last ↦ ap p (omega (arith, below, last)) ∙ sym tested ∙ passes
  ]

  -- one that fails
  pub fails : (n k : ℕ) (b : Bool) → k < n → b ≡ p k → b ≡ false → false ≡ list_all p (range_with_len 0 n)
  fails n k b below tested off =
      sym (no_more (list_all p (range_with_len 0 n)) (p k) (λ h. each n h k below) (sym tested ∙ off))
