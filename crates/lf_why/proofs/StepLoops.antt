-- Tests of each element of a list, and of each step of a span, as loops make them.
use Rattle.std.proofs.Common.{◌≡◌, ℕ, ◌+◌, ◌-◌, ◌<◌, ◌≤◌, Bool, true, false, List, length, get_or, take, sym, ap, ◌∙◌, ◌&&◌, ◌||◌, arith}
use Rattle.std.specs.List.{list_all, list_any}
use Rattle.std.proofs.lemmas.List.{take_all}
use Rattle.std.proofs.lemmas.List.Folds.{list_all_at, list_all_more, list_any_at, list_any_more}
use Rattle.std.proofs.lemmas.List.FromFn.{get_or-range_with_len, length-range_with_len}
use Rattle.lf_outcome.specs.Unfolding.{steps}

-- a loop over the steps
module _ (first last t : ℕ) (low : first ≤ t) where
  in-steps : t ≤ last → t - first < length (steps first last)
  in-steps high = let long = length-range_with_len first (last + 1 - first) in omega (arith, low, high, long)

  at-steps : t ≤ last → t ≡ get_or (steps first last) (t - first) t
  at-steps high =
      let at : get_or (steps first last) (t - first) t ≡ first + (t - first) =
      get_or-range_with_len first (last + 1 - first) (t - first) t (omega (arith, low, high)) in
      omega (arith, at, low)

  next-step : (t + 1) - first ≡ (t - first) + 1
  next-step = omega (arith, low)

  all-steps : last < t → length (steps first last) ≤ t - first
  all-steps past = let long = length-range_with_len first (last + 1 - first) in omega (arith, low, past, long)

  last-step : last ≤ t → length (steps first last) ≤ (t - first) + 1
  last-step end = let long = length-range_with_len first (last + 1 - first) in omega (arith, low, end, long)

-- a test of each element in turn, as a loop makes it: at an element, and after the last
module _ {X : Type 0} (p : X → Bool) (xs : List X) (i : ℕ) where
  module _ (x : X) (b : Bool) (within : i < length xs) (is : x ≡ get_or xs i x) (tested : b ≡ p x) where
    pub all-more : list_all p (take i xs) ≡ true → b ≡ true → list_all p (take (i + 1) xs) ≡ true
    all-more before holds =
        list_all_more p xs i x within ∙ ap (λ c. c && p (get_or xs i x)) before ∙ ap p (sym is) ∙ sym tested ∙ holds

    pub all-wrong : b ≡ false → false ≡ list_all p xs
    all-wrong fails = sym (list_all_at p xs i x within (ap p (sym is) ∙ sym tested ∙ fails))

    pub any-more : list_any p (take i xs) ≡ false → b ≡ false → list_any p (take (i + 1) xs) ≡ false
    any-more before fails =
        list_any_more p xs i x within ∙ ap (λ c. c || p (get_or xs i x)) before ∙ ap p (sym is) ∙ sym tested ∙ fails

    pub any-right : b ≡ true → true ≡ list_any p xs
    any-right holds = sym (list_any_at p xs i x within (ap p (sym is) ∙ sym tested ∙ holds))

  pub all-last : length xs ≤ i → list_all p (take i xs) ≡ true → true ≡ list_all p xs
  all-last far before = sym before ∙ ap (list_all p) (take_all i xs far)

  pub any-last : length xs ≤ i → list_any p (take i xs) ≡ false → false ≡ list_any p xs
  any-last far before = sym before ∙ ap (list_any p) (take_all i xs far)

-- the same of each step of a span, as a loop over its steps makes it
module _ (p : ℕ → Bool) (first last t : ℕ) (low : first ≤ t) where
  module _ (b : Bool) (high : t ≤ last) (tested : b ≡ p t) where
    pub steps-all-more : list_all p (take (t - first) (steps first last)) ≡ true → b ≡ true → list_all p (take ((t + 1) - first) (steps first last)) ≡ true
    steps-all-more before holds =
        ap (λ i. list_all p (take i (steps first last))) (next-step first last t low)
        ∙ all-more p (steps first last) (t - first) t b (in-steps first last t low high) (at-steps first last t low high) tested before holds

    pub steps-all-end : last ≤ t → list_all p (take (t - first) (steps first last)) ≡ true → b ≡ true → true ≡ list_all p (steps first last)
    steps-all-end end before holds =
        all-last p (steps first last) ((t - first) + 1) (last-step first last t low end)
        (all-more p (steps first last) (t - first) t b (in-steps first last t low high) (at-steps first last t low high) tested before holds)

    pub steps-all-wrong : b ≡ false → false ≡ list_all p (steps first last)
    steps-all-wrong = all-wrong p (steps first last) (t - first) t b (in-steps first last t low high) (at-steps first last t low high) tested

    pub steps-any-more : list_any p (take (t - first) (steps first last)) ≡ false → b ≡ false → list_any p (take ((t + 1) - first) (steps first last)) ≡ false
    steps-any-more before fails =
        ap (λ i. list_any p (take i (steps first last))) (next-step first last t low)
        ∙ any-more p (steps first last) (t - first) t b (in-steps first last t low high) (at-steps first last t low high) tested before fails

    pub steps-any-end : last ≤ t → list_any p (take (t - first) (steps first last)) ≡ false → b ≡ false → false ≡ list_any p (steps first last)
    steps-any-end end before fails =
        any-last p (steps first last) ((t - first) + 1) (last-step first last t low end)
        (any-more p (steps first last) (t - first) t b (in-steps first last t low high) (at-steps first last t low high) tested before fails)

    pub steps-any-right : b ≡ true → true ≡ list_any p (steps first last)
    steps-any-right = any-right p (steps first last) (t - first) t b (in-steps first last t low high) (at-steps first last t low high) tested

  pub steps-all-last : last < t → list_all p (take (t - first) (steps first last)) ≡ true → true ≡ list_all p (steps first last)
  steps-all-last past = all-last p (steps first last) (t - first) (all-steps first last t low past)

  pub steps-any-last : last < t → list_any p (take (t - first) (steps first last)) ≡ false → false ≡ list_any p (steps first last)
  steps-any-last past = any-last p (steps first last) (t - first) (all-steps first last t low past)
