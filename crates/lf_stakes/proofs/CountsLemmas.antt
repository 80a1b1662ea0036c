-- Counts of the runs in which each rule is taken, one run after another.
use Rattle.std.proofs.Common.{◌≡◌, ℕ, zero, suc, ◌+◌, ◌^◌, ◌<◌, ◌≤◌, Bool, true, cond, List, [], ◌∷◌, length, take, map, replicate, refl, sym, ap, ◌∙◌, arith}
use Rattle.std.proofs.Common.{inl, inr, slice_index_or}
use Rattle.std.specs.Prelude.{All, Some, if◌then◌else◌, slice_get, slice_index}
use Rattle.std.specs.List.{Contains, count_by, range_with_len}
use Rattle.std.proofs.lemmas.Bool.{cases_Bool}
use Rattle.std.proofs.lemmas.Grind.{same_number_lists}
use Rattle.std.proofs.lemmas.List.{length-take-le}
use Rattle.std.proofs.lemmas.List.Elements.{All-map}
use Rattle.std.proofs.lemmas.List.FromFn.{get_or-map-range_with_len, length-map-range_with_len}
use Rattle.std.proofs.lemmas.List.Sums.{count_by-le-length, get_or-le-sum_by, sum_by-cons, sum_by_more}
use Rattle.std.proofs.lemmas.Option.{get_or_from_slice_get, slice_get_within}
use Rattle.lf_list.proofs.Laws.{Contains-first, Contains-more}
use Rattle.lf_stakes.specs.Stakes.{has_number}

-- at the start each is 0
pub zeros : (f : ℕ → ℕ) (a n : ℕ) → ((r : ℕ) → f r ≡ 0) → replicate n 0 ≡ map f (range_with_len a n)
zeros f a zero none = refl
zeros f a (suc n) none = ap (λ x. x ∷ replicate n 0) (sym (none a)) ∙ ap (λ xs. f a ∷ xs) (zeros f (a + 1) n none)

-- how many items pass a test, with one item more
pub count-more : {X : Type 0} (p : X → Bool) (xs : List X) (i : ℕ) (x : X) (old new : ℕ) (passes : Bool) → i < length xs → x ≡ slice_index_or xs i x
    → old ≡ count_by p (take i xs) → passes ≡ p x → new ≡ old + cond passes 1 0 → new ≡ count_by p (take (i + 1) xs)
count-more p xs i x old new passes low is so_far same more =
    more ∙ ap (λ m. m + cond passes 1 0) so_far ∙ ap (λ b. count_by p (take i xs) + cond b 1 0) (same ∙ ap p is)
    ∙ sym (sum_by_more (λ y. cond (p y) 1 0) xs i x low)

-- numbers by a test: in how many of the items it passes with each of the numbers from 1 on
module _ {X : Type 0} (p : X → ℕ → Bool) where
  abbrev pub times : List X → ℕ → ℕ
  times xs r = count_by (λ x. p x r) xs

  abbrev pub counts : ℕ → List X → List ℕ
  counts n xs = map (times xs) (range_with_len 1 n)

  -- one item more
  pub counts-more : (n : ℕ) (xs : List X) (i : ℕ) (x : X) (old new numbers : List ℕ) → i < length xs → x ≡ slice_index_or xs i x
      → old ≡ counts n (take i xs) → length new ≡ length old → ((r : ℕ) → has_number r numbers ≡ p x r)
      → ((j : ℕ) → j < length old → slice_index new j ≡ slice_index old j + (if has_number (j + 1) numbers then 1 else 0))
      → new ≡ counts n (take (i + 1) xs)
  counts-more n xs i x old new numbers low is so_far long passes more =
      let size : length old ≡ n = ap length so_far ∙ length-map-range_with_len (times (take i xs)) 1 n in
      same_number_lists new (counts n (take (i + 1) xs)) (long ∙ size ∙ sym (length-map-range_with_len (times (take (i + 1) xs)) 1 n))
      (λ j within.
      let early : j < n = omega (arith, within, long, size) in
      let next : 1 + j ≡ j + 1 = omega arith in
      let was : slice_index old j ≡ times (take i xs) (j + 1) =
      ap (λ ns. slice_index ns j) so_far ∙ get_or-map-range_with_len (times (take i xs)) 1 n j (j + 1) 0 early next in
      let one : ℕ → Bool → ℕ = λ m b. m + (if b then 1 else 0) in
      more j (omega (arith, within, long))
      ∙ ap (λ m. one m (has_number (j + 1) numbers)) was
      ∙ ap (one (times (take i xs) (j + 1))) (passes (j + 1) ∙ ap (λ y. p y (j + 1)) is)
      ∙ sym (sum_by_more (λ y. cond (p y (j + 1)) 1 0) xs i x low)
      ∙ sym (get_or-map-range_with_len (times (take (i + 1) xs)) 1 n j (j + 1) 0 early next))

  -- no count is too large for one more
  pub counts-fit : (n : ℕ) (xs : List X) (i : ℕ) → i < length xs → length xs < 2 ^ 64 → All (λ m. m + 1 < 2 ^ 64) (counts n (take i xs))
  counts-fit n xs i low short =
      let size : length (take i xs) ≡ i = length-take-le i xs (omega (arith, low)) in
      All-map (λ m. m + 1 < 2 ^ 64) (times (take i xs)) (range_with_len 1 n) (λ k r within.
      omega (arith, low, short, size, count_by-le-length (λ x. p x (slice_index_or (range_with_len 1 n) k r)) (take i xs)))

  -- the count of a number
  pub count-at : (n i m : ℕ) (xs : List X) → slice_get (counts n xs) i ≡ Some m → times xs (i + 1) ≡ m
  count-at n i m xs there =
      let within = slice_get_within (counts n xs) i m there in
      let early : i < n = omega (arith, within, length-map-range_with_len (times xs) 1 n) in
      sym (get_or-map-range_with_len (times xs) 1 n i (i + 1) 0 early (omega arith)) ∙ get_or_from_slice_get (counts n xs) i m 0 there

  -- where it is 0, the test passes with none of the items,
  pub none_passes : (xs : List X) (r : ℕ) → times xs r ≡ 0 → (x : X) → Contains xs x → p x r ≡ true → ⊥
  none_passes xs r none x has passes =
      let one : X → ℕ = λ y. cond (p y r) 1 0 in
      let some : one (slice_index_or xs has.0 x) ≤ times xs r = get_or-le-sum_by one xs has.0 x has.1 in
      let is : one (slice_index_or xs has.0 x) ≡ 1 = ap one has.2 ∙ ap (λ b. cond b 1 0) passes in
      omega (arith, some, is, none)

  -- and where it isn't, with some
  pub some_passes : (xs : List X) (r : ℕ) → 0 < times xs r → (x : X) × Contains xs x × (p x r ≡ true)
  some_passes [] r some = absurd (omega (arith, some))
  some_passes (x ∷ xs) r some = elim (cases_Bool (p x r)) [
    | inl passes ↦ (x, Contains-first x xs, passes)
    | inr fails ↦
        let one : X → ℕ = λ y. cond (p y r) 1 0 in
        let here : one x ≡ 0 = ap (λ b. cond b 1 0) fails in
        let rest : 0 < times xs r = omega (arith, some, here, sum_by-cons one x xs) in
        let found = some_passes xs r rest in
        (found.0, Contains-more x xs found.0 found.1, found.2)
  ]
