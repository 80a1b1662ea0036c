-- What holds of the elements of lists.
use Rattle.std.proofs.Common.{◌≡◌, ◌⊎◌, ℕ, zero, suc, ◌+◌, ◌<◌, ◌≤◌, Bool, true, false, not, ◌==◌, ◌&&◌, ◌||◌, List, [], ◌∷◌, ◌++◌}
use Rattle.std.proofs.Common.{refl, sym, ap, subst, ◌∙◌, inl, inr, filter, arith}
use Rattle.std.specs.List.{range_with_len, list_all, list_any, flat_map}
use Rattle.std.proofs.lemmas.Bool.{and_parts, and_from, or_cases, or_left, or_right, cases_lt, eqb-true, eq-eqb}
use Rattle.std.proofs.lemmas.List.Folds.{list_all-append}
use Rattle.std.proofs.lemmas.List.Concat.{flat_map-cons}
use Rattle.lf_own_scenario.specs.Elements.{Member}

-- a truth value, whichever it is
pub either : (b : Bool) → (b ≡ true) ⊎ (b ≡ false)
either true = inl refl
either false = inr refl

module _ {X : Type 0} (q : X → Bool) where
  pub all-at : (xs : List X) (x : X) → list_all q xs ≡ true → Member xs x → q x ≡ true
  all-at [] x h m = absurd m
  all-at (y ∷ ys) x h (inl same) = ap q (sym same) ∙ (and_parts (q y) (list_all q ys) h).0
  all-at (y ∷ ys) x h (inr later) = all-at ys x (and_parts (q y) (list_all q ys) h).1 later

  pub all-from : (xs : List X) → ((x : X) → Member xs x → q x ≡ true) → list_all q xs ≡ true
  all-from [] h = refl
  all-from (y ∷ ys) h = and_from (q y) (list_all q ys) (h y (inl refl)) (all-from ys (λ x m. h x (inr m)))

  pub any-at : (xs : List X) → list_any q xs ≡ true → (x : X) × Member xs x × (q x ≡ true)
  any-at [] h = absurd cc
  any-at (y ∷ ys) h = elim (or_cases (q y) (list_any q ys) h) [
    | inl first ↦ (y, inl refl, first)
    | inr later ↦ let found = any-at ys later in (found.0, inr found.1, found.2)
  ]

  pub any-from : (xs : List X) (x : X) → Member xs x → q x ≡ true → list_any q xs ≡ true
  any-from [] x m h = absurd m
  any-from (y ∷ ys) x (inl same) h = or_left (q y) (list_any q ys) (ap q same ∙ h)
  any-from (y ∷ ys) x (inr later) h = or_right (q y) (list_any q ys) (any-from ys x later h)

  -- all pass, or one doesn't
  pub all_or_not : (xs : List X) → (list_all q xs ≡ true) ⊎ ((x : X) × Member xs x × (q x ≡ false))
  all_or_not [] = inl refl
  all_or_not (y ∷ ys) = elim (either (q y)) [
    | inl passes ↦ elim (all_or_not ys) [
      | inl rest ↦ inl (and_from (q y) (list_all q ys) passes rest)
      | inr found ↦ inr (found.0, inr found.1, found.2)
    ]
    | inr fails ↦ inr (y, inl refl, fails)
  ]

module _ {X : Type 0} (p : X → Bool) where
  filter-in : (y : X) (ys : List X) → p y ≡ true → filter p (y ∷ ys) ≡ y ∷ filter p ys
  filter-in y ys is = rw is refl

  filter-out : (y : X) (ys : List X) → p y ≡ false → filter p (y ∷ ys) ≡ filter p ys
  filter-out y ys is = rw is refl

  member-same : (xs ys : List X) (x : X) → xs ≡ ys → Member xs x → Member ys x
  member-same xs ys x e m = let P : List X → Type 0 = λ zs. Member zs x in subst P e m

  pub kept-from : (xs : List X) (x : X) → Member xs x → p x ≡ true → Member (filter p xs) x
  kept-from [] x m h = absurd m
  kept-from (y ∷ ys) x (inl same) h =
      member-same (y ∷ filter p ys) (filter p (y ∷ ys)) x (sym (filter-in y ys (ap p same ∙ h))) (inl same)
  kept-from (y ∷ ys) x (inr later) h = elim (either (p y)) [
    | inl passes ↦ member-same (y ∷ filter p ys) (filter p (y ∷ ys)) x (sym (filter-in y ys passes)) (inr (kept-from ys x later h))
    | inr fails ↦ member-same (filter p ys) (filter p (y ∷ ys)) x (sym (filter-out y ys fails)) (kept-from ys x later h)
  ]

  kept-head : (y : X) (ys : List X) (x : X) → p y ≡ true → (Member (filter p ys) x → Member ys x × (p x ≡ true))
      → (y ≡ x) ⊎ Member (filter p ys) x → Member (y ∷ ys) x × (p x ≡ true)
  kept-head y ys x passes rest (inl same) = (inl same, ap p (sym same) ∙ passes)
  kept-head y ys x passes rest (inr later) = let found = rest later in (inr found.0, found.1)

  pub kept-at : (xs : List X) (x : X) → Member (filter p xs) x → Member xs x × (p x ≡ true)
  kept-at [] x m = absurd m
  kept-at (y ∷ ys) x m = elim (either (p y)) [
    | inl passes ↦ kept-head y ys x passes (kept-at ys x) (member-same (filter p (y ∷ ys)) (y ∷ filter p ys) x (filter-in y ys passes) m)
    | inr fails ↦ let found = kept-at ys x (member-same (filter p (y ∷ ys)) (filter p ys) x (filter-out y ys fails) m) in (inr found.0, found.1)
  ]

-- the numbers of a range
pub range-at : (k a n : ℕ) → Member (range_with_len a k) n → (a ≤ n) × (n < a + k)
range-at zero a n m = absurd m
range-at (suc k) a n (inl same) = (omega arith, omega arith)
range-at (suc k) a n (inr later) = let found = range-at k (a + 1) n later in (omega (arith, found.0), omega (arith, found.1))

pub range-from : (k a n : ℕ) → a ≤ n → n < a + k → Member (range_with_len a k) n
range-from zero a n low high = absurd (omega arith)
range-from (suc k) a n low high = elim (cases_lt a n) [
  | inl later ↦ inr (range-from k (a + 1) n (omega (arith, later)) (omega (arith, high)))
  | inr first ↦ inl (omega (arith, low, first))
]

or-together : (a b c : Bool) → (a || (b || c)) ≡ ((a || b) || c)
or-together true b c = refl
or-together false b c = refl

-- a test of what comes of each element
module _ {X Y : Type 0} (q : Y → Bool) (f : X → List Y) where
  pub all-flat : (xs : List X) → list_all q (flat_map f xs) ≡ list_all (λ x. list_all q (f x)) xs
  all-flat [] = refl
  all-flat (x ∷ xs) =
      ap (list_all q) (flat_map-cons f x xs) ∙ list_all-append q (f x) (flat_map f xs) ∙ ap (λ b. list_all q (f x) && b) (all-flat xs)

  any-append : (ys zs : List Y) → list_any q (ys ++ zs) ≡ (list_any q ys || list_any q zs)
  any-append [] zs = refl
  any-append (y ∷ ys) zs = ap (λ b. q y || b) (any-append ys zs) ∙ or-together (q y) (list_any q ys) (list_any q zs)

  pub any-flat : (xs : List X) → list_any q (flat_map f xs) ≡ list_any (λ x. list_any q (f x)) xs
  any-flat [] = refl
  any-flat (x ∷ xs) =
      ap (list_any q) (flat_map-cons f x xs) ∙ any-append (f x) (flat_map f xs) ∙ ap (λ b. list_any q (f x) || b) (any-flat xs)

-- of the numbers of a list, all but one pass: no two fail
module _ (q : ℕ → Bool) (ns : List ℕ) where
  other : (k n : ℕ) → list_all q (filter (λ j. not (j == k)) ns) ≡ true → Member ns n → q n ≡ false → n ≡ k
  other k n h m fails = elim (either (n == k)) [
    | inl same ↦ eqb-true n k same
    | inr differs ↦
        let passes = all-at q (filter (λ j. not (j == k)) ns) n h (kept-from (λ j. not (j == k)) ns n m (ap not differs)) in
        let wrong : false ≡ true = sym fails ∙ passes in
        absurd (cc wrong)
  ]

  pub but_one-then : list_any (λ k. list_all q (filter (λ j. not (j == k)) ns)) ns ≡ true
      → (n m : ℕ) → Member ns n → Member ns m → q n ≡ false → q m ≡ false → n ≡ m
  but_one-then h n m n_in m_in n_fails m_fails =
      let found = any-at (λ k. list_all q (filter (λ j. not (j == k)) ns)) ns h in
      other found.0 n found.2 n_in n_fails ∙ sym (other found.0 m found.2 m_in m_fails)

  -- where all pass, one may be left out
  rest-pass : list_all q ns ≡ true → (k : ℕ) → list_all q (filter (λ j. not (j == k)) ns) ≡ true
  rest-pass h k = all-from q (filter (λ j. not (j == k)) ns) (λ x m. all-at q ns x h (kept-at (λ j. not (j == k)) ns x m).0)

  passes-but : (n : ℕ) → Member ns n → q n ≡ false → ((m : ℕ) → Member ns m → q m ≡ false → n ≡ m)
      → list_all q (filter (λ j. not (j == n)) ns) ≡ true
  passes-but n n_in n_fails alone =
      all-from q (filter (λ j. not (j == n)) ns) (λ x m.
      let found = kept-at (λ j. not (j == n)) ns x m in
      elim (either (q x)) [
        | inl passes ↦ passes
        | inr fails ↦
            let same : n ≡ x = alone x found.0 fails in
            let wrong : not (x == n) ≡ false = ap (λ (k : ℕ). not (k == n)) (sym same) ∙ ap not (eq-eqb n n refl) in
            absurd (cc (found.1, wrong))
      ])

pub but_one-from : (q : ℕ → Bool) (n : ℕ) (ns : List ℕ)
    → ((k m : ℕ) → Member (n ∷ ns) k → Member (n ∷ ns) m → q k ≡ false → q m ≡ false → k ≡ m)
    → list_any (λ k. list_all q (filter (λ j. not (j == k)) (n ∷ ns))) (n ∷ ns) ≡ true
but_one-from q n ns alone = elim (all_or_not q (n ∷ ns)) [
  | inl all ↦ any-from (λ k. list_all q (filter (λ j. not (j == k)) (n ∷ ns))) (n ∷ ns) n (inl refl) (rest-pass q (n ∷ ns) all n)
  | inr found ↦
      any-from (λ k. list_all q (filter (λ j. not (j == k)) (n ∷ ns))) (n ∷ ns) found.0 found.1
      (passes-but q (n ∷ ns) found.0 found.1 found.2 (λ m m_in m_fails. alone found.0 m found.1 m_in found.2 m_fails))
]
