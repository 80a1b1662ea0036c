-- Numbers in a list, and tests of the numbers below a number.
use Rattle.std.proofs.Common.{◌≡◌, ℕ, zero, suc, ◌+◌, ◌-◌, ◌<◌, ◌≤◌, ◌==◌, Bool, true, false, ◌||◌, List, [], ◌∷◌, ◌++◌, length, refl, sym, ap, ◌∙◌, arith}
use Rattle.std.proofs.Common.{add-one, zero-add, eq-eqb}
use Rattle.std.proofs.Math.Bool.{or-false}
use Rattle.std.specs.List.{Contains, list_any, range_with_len}
use Rattle.std.proofs.lemmas.Bool.{eqb-true, or_from}
use Rattle.std.proofs.lemmas.List.{get_or_default}
use Rattle.std.proofs.lemmas.List.Folds.{Any-from_list_any, list_any-append, list_any-from_Any}
use Rattle.std.proofs.lemmas.List.FromFn.{get_or-range_with_len, length-range_with_len}
use Rattle.lf_sim.specs.Runs.{each_below}
use Rattle.lf_stakes.specs.Stakes.{has_number}

-- one number more
range-more : (a n : ℕ) → range_with_len a (suc n) ≡ range_with_len a n ++ (a + n) ∷ []
range-more a zero = let same : a ≡ a + 0 = omega arith in ap (λ m. m ∷ []) same
range-more a (suc n) =
    let same : a + 1 + n ≡ a + suc n = omega arith in
    ap (λ ms. a ∷ ms) (range-more (a + 1) n ∙ ap (λ m. range_with_len (a + 1) n ++ m ∷ []) same)

any_range-more : (p : ℕ → Bool) (a n : ℕ) → list_any p (range_with_len a (suc n)) ≡ (list_any p (range_with_len a n) || p (a + n))
any_range-more p a n =
    ap (list_any p) (range-more a n) ∙ list_any-append p (range_with_len a n) ((a + n) ∷ [])
    ∙ ap (λ b. list_any p (range_with_len a n) || b) (or-false (p (a + n)))

any-more : (p : ℕ → Bool) (n : ℕ) → list_any p (range_with_len 0 (suc n)) ≡ (list_any p (range_with_len 0 n) || p n)
any-more p n = any_range-more p 0 n ∙ ap (λ m. list_any p (range_with_len 0 n) || p m) (zero-add n)

-- none passes with one more that doesn't
pub none-more : (p : ℕ → Bool) (a n t : ℕ) → t ≡ a + n → list_any p (range_with_len a n) ≡ false → p t ≡ false → list_any p (range_with_len a (n + 1)) ≡ false
none-more p a n t here so_far fails =
    ap (λ m. list_any p (range_with_len a m)) (add-one n) ∙ any_range-more p a n
    ∙ or_from (list_any p (range_with_len a n)) (p (a + n)) so_far (ap p (sym here) ∙ fails)

-- two tests that agree
pub any-same : {X : Type 0} (p q : X → Bool) (xs : List X) → ((x : X) → p x ≡ q x) → list_any p xs ≡ list_any q xs
any-same p q [] same = refl
any-same p q (x ∷ xs) same = ap (λ b. b || list_any p xs) (same x) ∙ ap (λ b. q x || b) (any-same p q xs same)

-- a number is in lists that are put together where it is in one of them
pub has-each : (r : ℕ) (f : ℕ → List ℕ) (n : ℕ) → has_number r (each_below f n) ≡ list_any (λ k. has_number r (f k)) (range_with_len 0 n)
has-each r f zero = refl
has-each r f (suc n) =
    list_any-append (λ m. m == r) (each_below f n) (f n) ∙ ap (λ b. b || has_number r (f n)) (has-each r f n)
    ∙ sym (any-more (λ k. has_number r (f k)) n)

-- what a test of so many numbers, from a number on, says
pub any_range-some : (p : ℕ → Bool) (a n : ℕ) → list_any p (range_with_len a n) ≡ true → (k : ℕ) × (a ≤ k) × (k < a + n) × (p k ≡ true)
any_range-some p a n is =
    let found = Any-from_list_any p (range_with_len a n) is in
    let low : found.0 < n = omega (arith, found.2, length-range_with_len a n) in
    let at : found.1 ≡ a + found.0 = sym found.3 ∙ get_or-range_with_len a n found.0 found.1 low in
    (found.1, omega (arith, at), omega (arith, low, at), found.4)

pub some-any_range : (p : ℕ → Bool) (a n k : ℕ) → a ≤ k → k < a + n → p k ≡ true → list_any p (range_with_len a n) ≡ true
some-any_range p a n k first low is =
    let place : k - a < n = omega (arith, first, low) in
    let within : k - a < length (range_with_len a n) = omega (arith, place, length-range_with_len a n) in
    let same : a + (k - a) ≡ k = omega (arith, first) in
    list_any-from_Any p (range_with_len a n) (k - a, k, within, get_or-range_with_len a n (k - a) k place ∙ same, is)

-- and of those below a number
pub any_below-some : (p : ℕ → Bool) (n : ℕ) → list_any p (range_with_len 0 n) ≡ true → (k : ℕ) × (k < n) × (p k ≡ true)
any_below-some p n is = let found = any_range-some p 0 n is in (found.0, omega (arith, found.2), found.3)

pub some-any_below : (p : ℕ → Bool) (n k : ℕ) → k < n → p k ≡ true → list_any p (range_with_len 0 n) ≡ true
some-any_below p n k low is = some-any_range p 0 n k (omega arith) (omega (arith, low)) is

-- whether a number is in a list
pub has-contains : (r : ℕ) (xs : List ℕ) → has_number r xs ≡ true → Contains xs r
has-contains r xs is =
    let found = Any-from_list_any (λ m. m == r) xs is in
    (found.0, found.2, get_or_default xs found.0 r found.1 found.2 ∙ found.3 ∙ eqb-true found.1 r found.4)

pub contains-has : (r : ℕ) (xs : List ℕ) → Contains xs r → has_number r xs ≡ true
contains-has r xs has = list_any-from_Any (λ m. m == r) xs (has.0, r, has.1, has.2, eq-eqb r r refl)
