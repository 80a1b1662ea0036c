-- A set's six places, with one fault more.
use Rattle.std.proofs.Common.{◌≡◌, ℕ, zero, suc, ◌+◌, ◌-◌, ◌<◌, ◌≤◌, Bool, List, [], ◌∷◌, ◌++◌, length, set, take}
use Rattle.std.proofs.Common.{drop, replicate, refl, sym, ap, ◌∙◌, subst, inl, inr, arith, one-add, append_assoc}
use Rattle.std.specs.List.{prefix_len}
use Rattle.std.proofs.lemmas.Bool.{cases_Bool, cond_both}
use Rattle.std.proofs.lemmas.List.{length-drop, length-take, drop_all, append-nil, take_at, length-take-le, take-append-drop}
use Rattle.std.proofs.lemmas.List.{take-replicate, take-take, length-replicate, drop_at, length-append}
use Rattle.std.proofs.Math.Seq.{take-append-add}
use borrow.Rule.Slice.PartMut.{put_mid}
use Rattle.lf_faults.specs.declared.fault.Parts.{Parts}
use Rattle.lf_faults.specs.Faults.{inserted, is_before, IsAscending}
use Rattle.lf_faults.specs.Kinds.{filler}
use Rattle.lf_faults.specs.Places.{FillsSix}
use Rattle.lf_faults.proofs.Orders.{ascending-left}

-- where a fault is inserted
pub inserted-is : (f : Parts) (fs : List Parts)
    → inserted f fs ≡ take (prefix_len (λ g. is_before g f) fs) fs ++ f ∷ drop (prefix_len (λ g. is_before g f) fs) fs
inserted-is f [] = refl
inserted-is f (g ∷ gs) = elim (cases_Bool (is_before g f)) [
  | inl before ↦ rw (before, one-add) (ap (λ xs. g ∷ xs) (inserted-is f gs))
  | inr not_before ↦ rw not_before refl
]

-- the end of a list of which all but one is dropped
one_left : {A : Type 0} (xs ys : List A) (n : ℕ) (x : A) → length xs ≡ suc n → set (drop n xs ++ ys) 0 x ≡ x ∷ ys
one_left [] ys n x h = absurd (omega arith)
one_left (y ∷ []) ys zero x h = refl
one_left (y ∷ z ∷ xs) ys zero x h = absurd (omega arith)
one_left (y ∷ xs) ys (suc n) x h = one_left xs ys n x (omega arith)

-- a tail that is turned by one, with its new first element replaced
pub shifted : {A : Type 0} (xs tail turned : List A) (at : ℕ) (x : A) → at < length xs → tail ≡ drop at xs
    → turned ≡ drop (length tail - 1) tail ++ take (length tail - 1) tail
    → put_mid at (length xs - at) xs (set turned 0 x) ≡ take at xs ++ x ∷ take (length xs - 1 - at) (drop at xs)
shifted xs tail turned at x h e is =
    let one : length (drop at xs) ≡ suc (length (drop at xs) - 1) = omega (arith, length-drop at xs) in
    let less : length (drop at xs) - 1 ≡ length xs - 1 - at = omega (arith, length-drop at xs) in
    let none : drop (length xs - at) (drop at xs) ≡ [] = drop_all (length xs - at) (drop at xs) (omega (arith, length-drop at xs)) in
    rw (is, e, one_left (drop at xs) (take (length (drop at xs) - 1) (drop at xs)) (length (drop at xs) - 1) x one, less, none)
    (ap (λ ys. take at xs ++ ys) (append-nil (x ∷ take (length xs - 1 - at) (drop at xs))))

-- a list in three parts, with one more before the second and one less at the end
one_more : {A : Type 0} (xs front back spare : List A) (f : A) (at k : ℕ) → xs ≡ front ++ (back ++ spare) → length front ≡ at
    → take at xs ++ f ∷ take (length back + k) (drop at xs) ≡ (front ++ f ∷ back) ++ take k spare
one_more xs front back spare f at k split here =
    rw (split, take_at front (back ++ spare) at here, drop_at front (back ++ spare) at here, take-append-add back spare k, append_assoc) refl

-- a set has at most six faults
pub at_most_six : (count : ℕ) (faults now : List Parts) → FillsSix count faults → take count faults ≡ now → length now ≤ 6
at_most_six count faults now fills view =
    omega (arith, fills.few, sym (ap length view), length-take-le count faults (omega (arith, fills.few, fills.six)))

-- what a set's places are with one fault more
module _ (count : ℕ) (faults : List Parts) (f : Parts) (new : List Parts) (fills : FillsSix count faults) where
  few : length (take count faults) ≡ count
  few = length-take-le count faults (omega (arith, fills.few, fills.six))

  module _ (room : count < 6) (at : ℕ) (early : at ≤ count) (is : new ≡ take at faults ++ f ∷ take (5 - at) (drop at faults)) where
    parts : new ≡ (take at (take count faults) ++ f ∷ drop at (take count faults)) ++ take (5 - count) (drop count faults)
    parts =
        let split : faults ≡ take at (take count faults) ++ (drop at (take count faults) ++ drop count faults) =
        sym (take-append-drop count faults) ∙ ap (λ xs. xs ++ drop count faults) (sym (take-append-drop at (take count faults)))
        ∙ append_assoc (take at (take count faults)) (drop at (take count faults)) (drop count faults) in
        let here : length (take at (take count faults)) ≡ at = length-take-le at (take count faults) (omega (arith, few)) in
        let n : 5 - at ≡ length (drop at (take count faults)) + (5 - count) = omega (arith, few, length-drop at (take count faults)) in
        is ∙ ap (λ n. take at faults ++ f ∷ take n (drop at faults)) n
        ∙ one_more faults (take at (take count faults)) (drop at (take count faults)) (drop count faults) f at (5 - count) split here

    long : length (take at (take count faults) ++ f ∷ drop at (take count faults)) ≡ count + 1
    long = length-append (take at (take count faults)) (f ∷ drop at (take count faults))
        ∙ omega (arith, few, length-take-le at (take count faults) (omega (arith, few)), length-drop at (take count faults))

    pub more_items : take (count + 1) new ≡ take at (take count faults) ++ f ∷ drop at (take count faults)
    more_items = rw parts (take_at (take at (take count faults) ++ f ∷ drop at (take count faults)) (take (5 - count) (drop count faults)) (count + 1) long)

    pub more_fills : FillsSix (count + 1) new
    more_fills = let left : 5 - count ≡ 6 - (count + 1) = omega arith in record {
      few = omega arith;
      six = rw parts
          (length-append (take at (take count faults) ++ f ∷ drop at (take count faults)) (take (5 - count) (drop count faults))
          ∙ omega (arith, long, length-take (5 - count) (drop count faults), length-drop count faults, fills.six));
      rest = rw parts (drop_at (take at (take count faults) ++ f ∷ drop at (take count faults)) (take (5 - count) (drop count faults)) (count + 1) long)
          ∙ (ap (take (5 - count)) fills.rest ∙ (take-replicate (5 - count) (6 - count) filler (omega arith) ∙ ap (λ n. replicate n filler) left));
    }

place_early : (p : Parts → Bool) (fs : List Parts) → prefix_len p fs ≤ length fs
place_early p [] = omega arith
place_early p (f ∷ fs) = cond_both (p f) (1 + prefix_len p fs) 0 (λ n. n ≤ suc (length fs)) (λ _. omega (arith, place_early p fs)) (λ _. omega arith)

-- what a set is after an insert
module _ (count : ℕ) (faults now : List Parts) (f : Parts) (at : ℕ) (fills : FillsSix count faults) (view : take count faults ≡ now)
    (place : at ≡ prefix_len (λ g. is_before g f) now) where
  pub place_within : at ≤ count
  place_within = omega (arith, place, place_early (λ g. is_before g f) now, sym (ap length view), few count faults f faults fills)

  module _ (new : List Parts) (room : count < 6) (is : new ≡ take at faults ++ f ∷ take (5 - at) (drop at faults)) where
    pub insert_items : take (count + 1) new ≡ inserted f now
    insert_items =
        more_items count faults f new fills room at place_within is
        ∙ (ap (λ xs. take at xs ++ f ∷ drop at xs) view ∙ (ap (λ n. take n now ++ f ∷ drop n now) place ∙ sym (inserted-is f now)))

    pub insert_fills : FillsSix (count + 1) new
    insert_fills = more_fills count faults f new fills room at place_within is

-- a set's first faults
module _ (count : ℕ) (faults now : List Parts) (fills : FillsSix count faults) (view : take count faults ≡ now) (ascending : IsAscending now) (n : ℕ)
    (few : n ≤ length now) (new : List Parts) (is : new ≡ take n faults ++ replicate (6 - n) filler) where
  early : n ≤ count
  early = omega (arith, few, sym (ap length view), length-take-le count faults (omega (arith, fills.few, fills.six)))

  length_front : length (take n faults) ≡ n
  length_front = length-take-le n faults (omega (arith, early, fills.few, fills.six))

  pub first_fills : FillsSix n new
  first_fills = record {
    few = omega (arith, early, fills.few);
    six = rw is (length-append (take n faults) (replicate (6 - n) filler) ∙ omega (arith, length_front, length-replicate (6 - n) filler, early, fills.few));
    rest = rw is (drop_at (take n faults) (replicate (6 - n) filler) n length_front);
  }

  same_front : take n new ≡ take n now
  same_front = rw is (take_at (take n faults) (replicate (6 - n) filler) n length_front) ∙ (sym (take-take n count faults early) ∙ ap (take n) view)

  pub first_ascending : IsAscending (take n new)
  first_ascending = subst IsAscending (sym same_front) (ascending-left (take n now) (drop n now) (subst IsAscending (sym (take-append-drop n now)) ascending))
