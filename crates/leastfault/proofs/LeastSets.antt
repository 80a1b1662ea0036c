-- Lists of least sets: there is one, and the answer is the first of them.
use Rattle.std.proofs.Common.{◌≡◌, Bool, true, false, not, List, [], ◌∷◌, length, refl, sym, ap, subst, inl, inr, arith}
use Rattle.std.specs.Prelude.{Option, None, Some, slice_get}
use Rattle.std.specs.Cmp.{IsTotalOrder}
use Rattle.std.specs.declared.cmp.Ordering.{Ordering}
use Rattle.std.specs.declared.cmp.Ordering.TheVariants.{Less, Equal, Greater}
use Rattle.std.specs.List.{Contains}
use Rattle.std.specs.Ordering.{is_lt}
use Rattle.std.proofs.lemmas.Bool.{both_ways, cases_lt}
use Rattle.lf_faults.specs.declared.fault.Parts.{Parts}
use Rattle.lf_faults.specs.declared.spec.Bounds.{Bounds}
use Rattle.lf_faults.specs.Allowed.{IsFirst}
use Rattle.lf_faults.specs.Faults.{set_cmp, set_is_before}
use Rattle.lf_faults.proofs.Laws.{fewer-before, set_not_itself}
use Rattle.lf_list.proofs.Laws.{Contains-first, Contains-more, cases_in, each-in, none-in}
use Rattle.lf_outcome.specs.declared.formula.Formula.{Formula}
use Rattle.lf_outcome.specs.Truth.{reaches}
use Rattle.lf_certificate.specs.Levels.{AreAllLeast, AreAscending, IsLeastSet}
use Rattle.lf_sim.specs.Runs.{World}

less_is : (o : Ordering) → is_lt o ≡ true → o ≡ Less
less_is Less is = refl
less_is Equal is = absurd (both_ways false refl is)
less_is Greater is = absurd (both_ways false refl is)

-- sets that come one after another
module _ (total : IsTotalOrder set_cmp) where
  pub set_later : (x y z : List Parts) → set_is_before x y ≡ true → set_is_before y z ≡ true → set_is_before x z ≡ true
  set_later x y z a b = ap is_lt (total.trans x y z (less_is (set_cmp x y) a) (less_is (set_cmp y z) b))

  pub not_round : (x y : List Parts) → set_is_before x y ≡ true → set_is_before y x ≡ true → ⊥
  not_round x y a b = set_not_itself x (set_later x y x a b)

  -- lists in order that have the same members have the same first one
  heads_one : (x y : List Parts) (xs ys : List (List Parts)) → AreAscending (x ∷ xs) → AreAscending (y ∷ ys) → Contains (x ∷ xs) y → Contains (y ∷ ys) x
      → x ≡ y
  heads_one x y xs ys one other has_y has_x = elim (cases_in x xs y has_y) [
    | inl same ↦ same
    | inr later ↦ elim (cases_in y ys x has_x) [
      | inl same ↦ sym same
      | inr later_too ↦
          absurd (not_round x y (each-in (λ s. set_is_before x s ≡ true) xs one.0 y later) (each-in (λ s. set_is_before y s ≡ true) ys other.0 x later_too))
    ]
  ]

  -- and the same after it
  rest_in : (x : List Parts) (xs ys : List (List Parts)) → AreAscending (x ∷ xs) → ((s : List Parts) → Contains (x ∷ xs) s → Contains (x ∷ ys) s)
      → (s : List Parts) → Contains xs s → Contains ys s
  rest_in x xs ys ascends to s has = elim (cases_in x ys s (to s (Contains-more x xs s has))) [
    | inl same ↦ absurd (set_not_itself x (subst (λ t. set_is_before x t ≡ true) (sym same) (each-in (λ t. set_is_before x t ≡ true) xs ascends.0 s has)))
    | inr later ↦ later
  ]

  -- so they are one
  pub lists_one : (xs ys : List (List Parts)) → AreAscending xs → AreAscending ys → ((s : List Parts) → Contains xs s → Contains ys s)
      → ((s : List Parts) → Contains ys s → Contains xs s) → xs ≡ ys
  lists_one [] [] one other to from = refl
  lists_one [] (y ∷ ys) one other to from = absurd (none-in y (from y (Contains-first y ys)))
  lists_one (x ∷ xs) [] one other to from = absurd (none-in x (to x (Contains-first x xs)))
  lists_one (x ∷ xs) (y ∷ ys) one other to from =
      let same = heads_one x y xs ys one other (from y (Contains-first y ys)) (to x (Contains-first x xs)) in
      let Follows : List Parts → Type 0 =
      λ z. AreAscending (z ∷ ys) → ((s : List Parts) → Contains (x ∷ xs) s → Contains (z ∷ ys) s)
      → ((s : List Parts) → Contains (z ∷ ys) s → Contains (x ∷ xs) s) → (x ∷ xs) ≡ (z ∷ ys) in
      subst Follows same
      (λ after there back. ap (λ rest. x ∷ rest) (lists_one xs ys one.1 after.1 (rest_in x xs ys one there) (rest_in x ys xs after back)))
      other to from

module _ {State Note Fact : Type 0} (w : World State Note Fact) (b : Bounds) (formula : Formula Fact) where
  pub least_one : IsTotalOrder set_cmp → (xs ys : List (List Parts)) → AreAllLeast w b formula xs → AreAllLeast w b formula ys → xs ≡ ys
  least_one total xs ys one other =
      lists_one total xs ys one.ascending other.ascending (λ s h. (other.each s).1 ((one.each s).0 h)) (λ s h. (one.each s).1 ((other.each s).0 h))

  pub least_size : (sets : List (List Parts)) (one other : List Parts) → AreAllLeast w b formula sets → Contains sets one → Contains sets other
      → length one ≡ length other
  least_size sets one other all has has_too =
      let x = (all.each one).0 has in
      let y = (all.each other).0 has_too in
      omega (arith, x.fewest other y.allowed y.misses, y.fewest one x.allowed x.misses)

  misses_is : (t : Bool) → not t ≡ true → t ≡ false
  misses_is true is = absurd (both_ways false refl is)
  misses_is false is = refl

  -- the first set that misses is a least one
  first_least : (found : List Parts) → IsFirst b (λ s. not (reaches w s formula)) (Some found) → IsLeastSet w b formula found
  first_least found first = record {
    allowed = first.0;
    misses = misses_is (reaches w found formula) first.1;
    fewest = λ other allowed misses. elim (cases_lt (length other) (length found)) [
      | inl fewer ↦ absurd (both_ways (set_is_before other found) (first.2 other allowed (ap not misses)) (fewer-before other found fewer))
      | inr most ↦ most
    ];
  }

  -- and the first of the list
  pub first_of_least : (answer : Option (List Parts)) (sets : List (List Parts)) → IsFirst b (λ s. not (reaches w s formula)) answer
      → AreAllLeast w b formula sets → answer ≡ slice_get sets 0
  first_of_least None [] first all = refl
  first_of_least None (x ∷ xs) first all =
      let least = (all.each x).0 (Contains-first x xs) in
      absurd (both_ways (not (reaches w x formula)) (first x least.allowed) (ap not least.misses))
  first_of_least (Some found) [] first all = absurd (none-in found ((all.each found).1 (first_least found first)))
  first_of_least (Some found) (x ∷ xs) first all = elim (cases_in x xs found ((all.each found).1 (first_least found first))) [
    | inl same ↦ ap Some (sym same)
    | inr later ↦
        let least = (all.each x).0 (Contains-first x xs) in
        absurd (both_ways (set_is_before x found) (first.2 x least.allowed (ap not least.misses))
        (each-in (λ s. set_is_before x s ≡ true) xs all.ascending.0 found later))
  ]
