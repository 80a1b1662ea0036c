-- What holds of each element of a list, and what a test counts.
use Rattle.std.proofs.Common.{◌≡◌, ℕ, ◌+◌, cond, zero-add, ◌<◌, ◌≤◌, Bool, true, false, List, [], ◌∷◌, ◌++◌, refl, sym, ap, ◌∙◌, arith, inl, inr}
use Rattle.std.specs.List.{Contains, AllByRecursion, count_by}
use Rattle.std.proofs.lemmas.Bool.{cases_Bool}
use Rattle.std.proofs.lemmas.List.Sums.{sum_by-cons}
use Rattle.lf_list.proofs.Laws.{none-in, Contains-first, Contains-more, cases_in}

pub each-append : {X : Type 0} (P : X → Type 0) (xs ys : List X) → AllByRecursion P xs → AllByRecursion P ys → AllByRecursion P (xs ++ ys)
each-append P [] ys a b = b
each-append P (x ∷ xs) ys a b = (a.0, each-append P xs ys a.1 b)

pub each-left : {X : Type 0} (P : X → Type 0) (xs ys : List X) → AllByRecursion P (xs ++ ys) → AllByRecursion P xs
each-left P [] ys a = tt
each-left P (x ∷ xs) ys a = (a.0, each-left P xs ys a.1)

pub each-right : {X : Type 0} (P : X → Type 0) (xs ys : List X) → AllByRecursion P (xs ++ ys) → AllByRecursion P ys
each-right P [] ys a = a
each-right P (x ∷ xs) ys a = each-right P xs ys a.1

pub each-weaker : {X : Type 0} (P Q : X → Type 0) → ((x : X) → P x → Q x) → (xs : List X) → AllByRecursion P xs → AllByRecursion Q xs
each-weaker P Q h [] a = tt
each-weaker P Q h (x ∷ xs) a = (h x a.0, each-weaker P Q h xs a.1)

-- what a test counts for
pub one-is : (b : Bool) → b ≡ true → cond {A = ℕ} b 1 0 ≡ 1
one-is b e = rw e refl

pub none-is : (b : Bool) → b ≡ false → cond {A = ℕ} b 1 0 ≡ 0
none-is b e = rw e refl

-- a count, element by element
pub count-cons : {X : Type 0} (p : X → Bool) (x : X) (xs : List X) → count_by p (x ∷ xs) ≡ cond (p x) 1 0 + count_by p xs
count-cons p x xs = sum_by-cons (λ y. cond (p y) 1 0) x xs

pub count-is : {X : Type 0} (p : X → Bool) (x : X) (xs : List X) → p x ≡ true → count_by p (x ∷ xs) ≡ 1 + count_by p xs
count-is p x xs is = count-cons p x xs ∙ ap (λ b. cond b 1 0 + count_by p xs) is

pub count-isnt : {X : Type 0} (p : X → Bool) (x : X) (xs : List X) → p x ≡ false → count_by p (x ∷ xs) ≡ count_by p xs
count-isnt p x xs isnt = count-cons p x xs ∙ (ap (λ b. cond b 1 0 + count_by p xs) isnt ∙ zero-add (count_by p xs))

-- a count that isn't none has an element
pub counted : {X : Type 0} (p : X → Bool) (xs : List X) → 0 < count_by p xs → (x : X) × Contains xs x × (p x ≡ true)
counted p [] h = absurd (omega arith)
counted p (x ∷ xs) h = elim (cases_Bool (p x)) [
  | inl is ↦ (x, Contains-first x xs, is)
  | inr isnt ↦
      let rest = counted p xs (rw (count-isnt p x xs isnt) at h) in
      (rest.0, Contains-more x xs rest.0 rest.1, rest.2)
]

pub uncounted : {X : Type 0} (p : X → Bool) (xs : List X) → count_by p xs ≡ 0 → (x : X) → Contains xs x → p x ≡ true → ⊥
uncounted p [] h x k e = none-in x k
uncounted p (y ∷ ys) h x k e = elim (cases_Bool (p y)) [
  | inl is ↦ omega (arith, count-is p y ys is)
  | inr isnt ↦ elim (cases_in y ys x k) [
    | inl same ↦ let but : p y ≡ true = ap p same ∙ e in cc
    | inr later ↦ uncounted p ys (sym (count-isnt p y ys isnt) ∙ h) x later e
  ]
]

-- where a test counts one at the most, two that pass are one
pub counted_once : {X : Type 0} (p : X → Bool) (xs : List X) → count_by p xs ≤ 1 → (x y : X) → Contains xs x → Contains xs y → p x ≡ true → p y ≡ true → x ≡ y
counted_once p [] few x y here there passes_x passes_y = absurd (none-in x here)
counted_once {X = X} p (z ∷ zs) few x y here there passes_x passes_y = elim (cases_Bool (p z)) [
  | inr isnt ↦ counted_once p zs (omega (arith, few, count-isnt p z zs isnt)) x y (later x here passes_x isnt) (later y there passes_y isnt) passes_x passes_y
  | inl is ↦
      let rest : count_by p zs ≡ 0 = omega (arith, few, count-is p z zs is) in
      sym (first x here passes_x rest) ∙ first y there passes_y rest
]
  where
    first : (x : X) → Contains (z ∷ zs) x → p x ≡ true → count_by p zs ≡ 0 → z ≡ x
    first x here passes rest = elim (cases_in z zs x here) [
      | inl same ↦ same
      | inr after ↦ absurd (uncounted p zs rest x after passes)
    ]

    later : (x : X) → Contains (z ∷ zs) x → p x ≡ true → p z ≡ false → Contains zs x
    later x here passes isnt = elim (cases_in z zs x here) [
      | inl same ↦ let but : p z ≡ true = ap p same ∙ passes in cc
      | inr after ↦ after
    ]
