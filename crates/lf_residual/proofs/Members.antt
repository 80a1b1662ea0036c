-- Members of lists, and tests that all members pass.
use Rattle.std.proofs.Common.{◌≡◌, ℕ, zero, suc, ◌+◌, ◌<◌, ◌≤◌, true, false, Bool, List, [], ◌∷◌, ◌++◌, map, refl, sym, ap, ◌∙◌, subst, inl, inr, arith}
use Rattle.std.specs.Prelude.{Option, None, Some}
use Rattle.std.specs.List.{Contains, flat_map, list_all, range_with_len}
use Rattle.std.specs.Option.{option_to_list}
use Rattle.std.proofs.lemmas.Bool.{and_parts, and_from, cases_eq, false≢true}
use Rattle.std.proofs.lemmas.List.Elements.{Contains-append_cases, Contains-append_left, Contains-append_right}
use Rattle.lf_list.proofs.Laws.{none-in, Contains-first, Contains-more, cases_in}

-- a test that all members pass, at one of them
pub passes : {X : Type 0} (p : X → Bool) (xs : List X) (x : X) → list_all p xs ≡ true → Contains xs x → p x ≡ true
passes p [] x h there = absurd (none-in x there)
passes p (y ∷ ys) x h there =
    let both = and_parts (p y) (list_all p ys) h in
    elim (cases_in y ys x there) [
      | inl same ↦ ap p (sym same) ∙ both.0
      | inr later ↦ passes p ys x both.1 later
    ]

pub all_pass : {X : Type 0} (p : X → Bool) (xs : List X) → ((x : X) → Contains xs x → p x ≡ true) → list_all p xs ≡ true
all_pass p [] h = refl
all_pass p (y ∷ ys) h =
    and_from (p y) (list_all p ys) (h y (Contains-first y ys)) (all_pass p ys (λ x there. h x (Contains-more y ys x there)))

-- what would make a false test true
pub not_both : (b c : Bool) → (b ≡ true → c ≡ true) → c ≡ false → b ≡ false
not_both true c h e = absurd (false≢true (sym e ∙ h refl))
not_both false c h e = refl

-- lists made of each member, one after another
pub in_flat : {X A : Type 0} (f : X → List A) (xs : List X) (x : X) (a : A) → Contains xs x → Contains (f x) a → Contains (flat_map f xs) a
in_flat f [] x a there h = absurd (none-in x there)
in_flat f (y ∷ ys) x a there h = elim (cases_in y ys x there) [
  | inl same ↦ Contains-append_left (f y) (flat_map f ys) a (subst (λ z. Contains (f z) a) (sym same) h)
  | inr later ↦ Contains-append_right (f y) (flat_map f ys) a (in_flat f ys x a later h)
]

pub from_flat : {X A : Type 0} (f : X → List A) (xs : List X) (a : A) → Contains (flat_map f xs) a → (x : X) × Contains xs x × Contains (f x) a
from_flat f [] a h = absurd (none-in a h)
from_flat f (y ∷ ys) a h = elim (Contains-append_cases (f y) (flat_map f ys) a h) [
  | inl here ↦ (y, Contains-first y ys, here)
  | inr later ↦ let there = from_flat f ys a later in (there.0, Contains-more y ys there.0 there.1, there.2)
]

pub flat-same : {X A : Type 0} (f g : X → List A) (xs : List X) → ((x : X) → Contains xs x → f x ≡ g x) → flat_map f xs ≡ flat_map g xs
flat-same f g [] same = refl
flat-same f g (x ∷ xs) same =
    let first : f x ≡ g x = same x (Contains-first x xs) in
    let rest : flat_map f xs ≡ flat_map g xs = flat-same f g xs (λ y k. same y (Contains-more x xs y k)) in
    λ i. first i ++ rest i

-- what is made of each member
pub in_map : {X A : Type 0} (f : X → A) (xs : List X) (x : X) → Contains xs x → Contains (map f xs) (f x)
in_map f [] x there = absurd (none-in x there)
in_map f (y ∷ ys) x there = elim (cases_in y ys x there) [
  | inl same ↦ subst (λ z. Contains (map f (y ∷ ys)) (f z)) same (Contains-first (f y) (map f ys))
  | inr later ↦ Contains-more (f y) (map f ys) (f x) (in_map f ys x later)
]

pub from_map : {X A : Type 0} (f : X → A) (xs : List X) (a : A) → Contains (map f xs) a → (x : X) × Contains xs x × (f x ≡ a)
from_map f [] a h = absurd (none-in a h)
from_map f (y ∷ ys) a h = elim (cases_in (f y) (map f ys) a h) [
  | inl same ↦ (y, Contains-first y ys, same)
  | inr later ↦ let there = from_map f ys a later in (there.0, Contains-more y ys there.0 there.1, there.2)
]

-- numbers one after another
pub in_numbers : (a n m : ℕ) → a ≤ m → m < a + n → Contains (range_with_len a n) m
in_numbers a zero m low high = absurd (omega (arith, low, high))
in_numbers a (suc n) m low high = elim (cases_eq a m) [
  | inl same ↦ subst (λ z. Contains (range_with_len a (suc n)) z) same (Contains-first a (range_with_len (a + 1) n))
  | inr other ↦ Contains-more a (range_with_len (a + 1) n) m (in_numbers (a + 1) n m (omega (arith, low, other)) (omega (arith, high)))
]

pub from_numbers : (a n m : ℕ) → Contains (range_with_len a n) m → (a ≤ m) × (m < a + n)
from_numbers a zero m h = absurd (none-in m h)
from_numbers a (suc n) m h = elim (cases_in a (range_with_len (a + 1) n) m h) [
  | inl same ↦ (omega (arith, same), omega (arith, same))
  | inr later ↦ let there = from_numbers (a + 1) n m later in (omega (arith, there.0), omega (arith, there.1))
]

-- what there is of an option
pub in_option : {X : Type 0} (o : Option X) (x : X) → o ≡ Some x → Contains (option_to_list o) x
in_option o x is = subst (λ z. Contains (option_to_list z) x) (sym is) (Contains-first x [])

pub from_option : {X : Type 0} (o : Option X) (x : X) → Contains (option_to_list o) x → o ≡ Some x
from_option None x h = absurd (none-in x h)
from_option (Some y) x h = elim (cases_in y [] x h) [
  | inl same ↦ ap Some same
  | inr never ↦ absurd (none-in x never)
]
