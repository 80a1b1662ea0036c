-- Lists that are built piece by piece: their members and their order.
use Rattle.std.proofs.Common.{◌≡◌, ℕ, zero, suc, ◌+◌, ◌<◌, Bool, true, List, [], ◌∷◌, ◌++◌, get_or, refl, ap, ◌∙◌, subst, arith, inl, inr, add-one}
use Rattle.std.proofs.Common.{append_assoc}
use Rattle.std.specs.Prelude.{Option, None, Some}
use Rattle.std.specs.Option.{option_to_list}
use Rattle.std.specs.List.{Contains, AllPairs, list_any}
use Rattle.std.proofs.lemmas.Bool.{cases_lt}
use Rattle.std.proofs.lemmas.List.{get_or_default, append-nil}
use Rattle.std.proofs.lemmas.List.Elements.{All-append, Contains-append_left, Contains-append_right, Contains-append_cases}
use Rattle.std.proofs.lemmas.List.Folds.{Any-from_list_any, list_any_at}
use Rattle.std.proofs.lemmas.List.Kept.{AllPairs-cons}
use Rattle.lf_sim.specs.Runs.{each_below}

-- a test that some element passes
pub found-in : {X : Type 0} (p : X → Bool) (xs : List X) → list_any p xs ≡ true → (x : X) × Contains xs x × (p x ≡ true)
found-in p xs h =
    let found = Any-from_list_any p xs h in
    (found.1, (found.0, found.2, found.3), found.4)

pub passed-in : {X : Type 0} (p : X → Bool) (xs : List X) (x : X) → Contains xs x → p x ≡ true → list_any p xs ≡ true
passed-in p xs x h e = list_any_at p xs h.0 x h.1 (ap p h.2 ∙ e)

pub each_below-same : {A : Type 0} (f g : ℕ → List A) (n : ℕ) → ((k : ℕ) → k < n → f k ≡ g k) → each_below f n ≡ each_below g n
each_below-same f g zero h = refl
each_below-same f g (suc n) h =
    let before : each_below f n ≡ each_below g n = each_below-same f g n (λ k l. h k (omega arith)) in
    let last : f n ≡ g n = h n (omega arith) in
    rw (before, last)

pub each_below-add-one : {A : Type 0} (f : ℕ → List A) (n : ℕ) → each_below f (n + 1) ≡ each_below f n ++ f n
each_below-add-one f n = rw add-one refl

pub in-each_below : {A : Type 0} (f : ℕ → List A) (n k : ℕ) (x : A) → k < n → Contains (f k) x → Contains (each_below f n) x
in-each_below f zero k x h c = absurd (omega arith)
in-each_below f (suc n) k x h c = elim (cases_lt k n) [
  | inl early ↦ Contains-append_left (each_below f n) (f n) x (in-each_below f n k x early c)
  | inr late ↦
      let last : k ≡ n = omega (arith, late, h) in
      Contains-append_right (each_below f n) (f n) x (subst (λ i. Contains (f i) x) last c)
]

pub from-each_below : {A : Type 0} (f : ℕ → List A) (n : ℕ) (x : A) → Contains (each_below f n) x → (k : ℕ) × (k < n) × Contains (f k) x
from-each_below f zero x c = absurd (omega (arith, c.1))
from-each_below f (suc n) x c = elim (Contains-append_cases (each_below f n) (f n) x c) [
  | inl early ↦
      let at = from-each_below f n x early in
      (at.0, omega (arith, at.1), at.2)
  | inr last ↦ (n, omega arith, last)
]

-- the one element, or none
pub in-option : {A : Type 0} (o : Option A) (x : A) → o ≡ Some x → Contains (option_to_list o) x
in-option o x e = rw e (0, omega arith, refl)

one-of : {A : Type 0} (y x : A) (k : ℕ) → k < 1 → get_or (y ∷ []) k x ≡ x → Some y ≡ Some x
one-of y x zero h e = ap Some e
one-of y x (suc k) h e = absurd (omega arith)

pub from-option : {A : Type 0} (o : Option A) (x : A) → Contains (option_to_list o) x → o ≡ Some x
from-option None x c = absurd (omega (arith, c.1))
from-option (Some y) x c = one-of y x c.0 (omega (arith, c.1)) c.2

pub AllPairs-option : {A : Type 0} (R : A → A → Type 0) (o : Option A) → AllPairs R (option_to_list o)
AllPairs-option R None i j d lt within = absurd (omega arith)
AllPairs-option R (Some x) i j d lt within = absurd (omega arith)

pub AllPairs-append : {A : Type 0} (R : A → A → Type 0) (xs ys : List A) → AllPairs R xs → AllPairs R ys
    → ((x y : A) → Contains xs x → Contains ys y → R x y) → AllPairs R (xs ++ ys)
AllPairs-append R [] ys a b h = b
AllPairs-append R (x ∷ xs) ys a b h =
    AllPairs-cons R x (xs ++ ys)
    (All-append (R x) xs ys
    (λ k d l. a 0 (suc k) d (omega arith) (omega arith))
    (λ k d l. h x (get_or ys k d) (0, omega arith, refl) (k, l, get_or_default ys k (get_or ys k d) d l)))
    (AllPairs-append R xs ys
    (λ i j d l m. a (suc i) (suc j) d (omega arith) (omega arith))
    b
    (λ p q c e. h p q (suc c.0, omega (arith, c.1), c.2) e))

pub AllPairs-each_below : {A : Type 0} (R : A → A → Type 0) (f : ℕ → List A) (n : ℕ) → ((k : ℕ) → k < n → AllPairs R (f k))
    → ((k l : ℕ) (x y : A) → k < l → l < n → Contains (f k) x → Contains (f l) y → R x y) → AllPairs R (each_below f n)
AllPairs-each_below R f zero one two = λ i j d lt within. absurd (omega arith)
AllPairs-each_below R f (suc n) one two =
    AllPairs-append R (each_below f n) (f n)
    (AllPairs-each_below R f n (λ k h. one k (omega arith)) (λ k l x y h m. two k l x y h (omega arith)))
    (one n (omega arith))
    (λ x y c e. let at = from-each_below f n x c in two at.0 n x y at.1 (omega arith) at.2 e)

-- a list that is built from an option at its end
pub more_some : {A : Type 0} (xs ys : List A) (o : Option A) (x : A) → o ≡ Some x → (xs ++ ys) ++ x ∷ [] ≡ xs ++ (ys ++ option_to_list o)
more_some xs ys o x e = rw (e, append_assoc) refl

pub more_none : {A : Type 0} (xs ys : List A) (o : Option A) → o ≡ None → xs ++ ys ≡ xs ++ (ys ++ option_to_list o)
more_none xs ys o e = rw (e, append-nil) refl

pub none_from_not : {A : Type 0} (o : Option A) → ((x : A) → o ≡ Some x → ⊥) → o ≡ None
none_from_not None h = refl
none_from_not (Some x) h = absurd (h x refl)
