-- The first that passes, of what is made of some numbers in order.
use Rattle.std.proofs.Common.{◌≡◌, ℕ, suc, ◌+◌, ◌-◌, ◌<◌, Bool, List, ◌++◌, sym, ap, ◌∙◌, arith}
use Rattle.std.specs.Prelude.{Option, None, Some, find}
use Rattle.std.specs.Option.{option_or}
use Rattle.std.specs.List.{flat_map, range_with_len}
use Rattle.std.proofs.lemmas.List.Folds.{find-append}

module _ {X : Type 0} (p : X → Bool) (f : ℕ → List X) where
  -- of what is made of the numbers below n from i on
  abbrev pub first_from : ℕ → ℕ → Option X
  first_from i n = find p (flat_map f (range_with_len i (n - i)))

  pub one_first : (i n : ℕ) → i < n → first_from i n ≡ option_or (find p (f i)) (first_from (i + 1) n)
  one_first i n within =
      let more : n - i ≡ suc (n - (i + 1)) = omega arith in
      ap (λ k. find p (flat_map f (range_with_len i k))) more ∙ find-append p (f i) (flat_map f (range_with_len (i + 1) (n - (i + 1))))

  pub found_here : (i n : ℕ) (x : X) (all : Option X) → i < n → first_from i n ≡ all → Some x ≡ find p (f i) → Some x ≡ all
  found_here i n x all within so here = ap (λ o. option_or o (first_from (i + 1) n)) here ∙ sym (one_first i n within) ∙ so

  pub not_here : (i n : ℕ) (all : Option X) → i < n → first_from i n ≡ all → None ≡ find p (f i) → first_from (i + 1) n ≡ all
  not_here i n all within so here = ap (λ o. option_or o (first_from (i + 1) n)) here ∙ sym (one_first i n within) ∙ so

  pub nowhere : (i n : ℕ) (all : Option X) → i ≡ n → first_from i n ≡ all → None ≡ all
  nowhere i n all end so =
      let none : n - i ≡ 0 = omega (arith, end) in
      sym (ap (λ k. find p (flat_map f (range_with_len i k))) none) ∙ so

-- the first that passes of two lists, one after the other
module _ {X : Type 0} (p : X → Bool) (xs ys : List X) where
  pub before_rest : (x : X) → Some x ≡ find p xs → Some x ≡ find p (xs ++ ys)
  before_rest x here = ap (λ o. option_or o (find p ys)) here ∙ sym (find-append p xs ys)

  pub past_first : (o : Option X) → None ≡ find p xs → o ≡ find p ys → o ≡ find p (xs ++ ys)
  past_first o gone there = there ∙ ap (λ o. option_or o (find p ys)) gone ∙ sym (find-append p xs ys)
