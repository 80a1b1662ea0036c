-- Lists, one element more.
use Rattle.std.proofs.Common.{◌≡◌, ℕ, ◌+◌, Bool, true, false, List, [], ◌∷◌, ◌++◌, refl, sym, ap, ◌∙◌, map, zero-add, filter, length, length-append}
use Rattle.std.specs.List.{range_with_len, flat_map}
use Rattle.std.proofs.lemmas.List.FromFn.{map-range_with_len_more}
use Rattle.std.proofs.lemmas.List.Elements.{filter-append}
use Rattle.std.proofs.lemmas.Grind.{flat_map-append}
use Rattle.std.proofs.lemmas.List.Concat.{flat_map-cons}

map-same : {X : Type 0} (xs : List X) → map (λ x. x) xs ≡ xs
map-same [] = refl
map-same (x ∷ xs) = ap (λ ys. x ∷ ys) (map-same xs)

append-none : {X : Type 0} (xs : List X) → xs ++ [] ≡ xs
append-none [] = refl
append-none (x ∷ xs) = ap (λ ys. x ∷ ys) (append-none xs)

flat-one : {X : Type 0} (f : ℕ → List X) (k : ℕ) → flat_map f (k ∷ []) ≡ f k
flat-one f k = flat_map-cons f k [] ∙ append-none (f k)

pub range-more : (a n : ℕ) → range_with_len a (n + 1) ≡ range_with_len a n ++ (a + n) ∷ []
range-more a n =
    sym (map-same (range_with_len a (n + 1))) ∙ map-range_with_len_more (λ k. k) a n (a + n) refl
    ∙ ap (λ xs. xs ++ (a + n) ∷ []) (map-same (range_with_len a n))

module _ (p : ℕ → Bool) (n : ℕ) where
  filter-range-more : filter p (range_with_len 0 (n + 1)) ≡ filter p (range_with_len 0 n) ++ filter p (n ∷ [])
  filter-range-more =
      ap (filter p) (range-more 0 n) ∙ filter-append p (range_with_len 0 n) ((0 + n) ∷ [])
      ∙ ap (λ (k : ℕ). filter p (range_with_len 0 n) ++ filter p (k ∷ [])) (zero-add n)

  one-in : p n ≡ true → filter p (n ∷ []) ≡ n ∷ []
  one-in is = rw is refl

  one-out : p n ≡ false → filter p (n ∷ []) ≡ []
  one-out is = rw is refl

  -- a test of each number in turn, as a loop makes it
  pub range-in : (sofar next : List ℕ) (b : Bool) → sofar ≡ filter p (range_with_len 0 n) → b ≡ p n → b ≡ true → next ≡ sofar ++ n ∷ []
      → next ≡ filter p (range_with_len 0 (n + 1))
  range-in sofar next b before tested holds pushed =
      pushed ∙ ap (λ xs. xs ++ n ∷ []) before ∙ ap (λ ys. filter p (range_with_len 0 n) ++ ys) (sym (one-in (sym tested ∙ holds))) ∙ sym filter-range-more

  pub range-out : (sofar : List ℕ) (b : Bool) → sofar ≡ filter p (range_with_len 0 n) → b ≡ p n → b ≡ false
      → sofar ≡ filter p (range_with_len 0 (n + 1))
  range-out sofar b before tested fails =
      before ∙ sym (append-none (filter p (range_with_len 0 n)))
      ∙ ap (λ ys. filter p (range_with_len 0 n) ++ ys) (sym (one-out (sym tested ∙ fails))) ∙ sym filter-range-more

  -- the same, where they are counted alone
  pub count-in : (sofar : ℕ) (b : Bool) → sofar ≡ length (filter p (range_with_len 0 n)) → b ≡ p n → b ≡ true
      → sofar + 1 ≡ length (filter p (range_with_len 0 (n + 1)))
  count-in sofar b before tested holds =
      ap (λ k. k + 1) before ∙ sym (length-append (filter p (range_with_len 0 n)) (n ∷ []))
      ∙ ap (λ ys. length (filter p (range_with_len 0 n) ++ ys)) (sym (one-in (sym tested ∙ holds))) ∙ ap length (sym filter-range-more)

  pub count-out : (sofar : ℕ) (b : Bool) → sofar ≡ length (filter p (range_with_len 0 n)) → b ≡ p n → b ≡ false
      → sofar ≡ length (filter p (range_with_len 0 (n + 1)))
  count-out sofar b before tested fails =
      before ∙ ap length (range-out (filter p (range_with_len 0 n)) b refl tested fails)

-- what comes of each number in turn
pub flat-range-more : {X : Type 0} (f : ℕ → List X) (a n k : ℕ) (sofar next : List X) → a + n ≡ k
    → sofar ≡ flat_map f (range_with_len a n) → next ≡ sofar ++ f k → next ≡ flat_map f (range_with_len a (n + 1))
flat-range-more f a n k sofar next is before pushed =
    pushed ∙ ap (λ xs. xs ++ f k) before ∙ ap (λ j. flat_map f (range_with_len a n) ++ f j) (sym is)
    ∙ ap (λ ys. flat_map f (range_with_len a n) ++ ys) (sym (flat-one f (a + n)))
    ∙ sym (flat_map-append f (range_with_len a n) ((a + n) ∷ [])) ∙ ap (flat_map f) (sym (range-more a n))
