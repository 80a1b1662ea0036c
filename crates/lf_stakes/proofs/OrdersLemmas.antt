-- Lists of sets in order.
use Rattle.std.proofs.Common.{◌≡◌, true, false, List, [], ◌∷◌, ◌++◌, refl, sym, ap, subst, inl, inr}
use Rattle.std.specs.Cmp.{IsTotalOrder}
use Rattle.std.specs.declared.cmp.Ordering.{Ordering}
use Rattle.std.specs.declared.cmp.Ordering.TheVariants.{Less, Equal, Greater}
use Rattle.std.specs.List.{AllByRecursion, Contains}
use Rattle.std.specs.Ordering.{is_lt}
use Rattle.std.proofs.lemmas.Bool.{both_ways}
use Rattle.lf_faults.specs.declared.fault.Parts.{Parts}
use Rattle.lf_faults.specs.Allowed.{AreAscending}
use Rattle.lf_faults.specs.Faults.{set_cmp, set_is_before}
use Rattle.lf_faults.proofs.Laws.{set_not_itself}
use Rattle.lf_list.proofs.Laws.{Contains-first, Contains-more, cases_in, each-in, none-in}

less_is : (o : Ordering) → is_lt o ≡ true → o ≡ Less
less_is Less is = refl
less_is Equal is = absurd (both_ways false refl is)
less_is Greater is = absurd (both_ways false refl is)

-- one more at the end
pub ascending_more : (sets : List (List Parts)) (last : List Parts) → AreAscending sets
    → ((s : List Parts) → Contains sets s → set_is_before s last ≡ true) → AreAscending (sets ++ last ∷ [])
ascending_more [] last ascends before = (tt, tt)
ascending_more (x ∷ xs) last ascends before =
    (each_more xs ascends.0, ascending_more xs last ascends.1 (λ s h. before s (Contains-more x xs s h)))
  where
    each_more : (ys : List (List Parts)) → AllByRecursion (λ t. set_is_before x t ≡ true) ys
        → AllByRecursion (λ t. set_is_before x t ≡ true) (ys ++ last ∷ [])
    each_more [] each = (before x (Contains-first x xs), tt)
    each_more (y ∷ ys) each = (each.0, each_more ys each.1)

module _ (total : IsTotalOrder set_cmp) where
  pub set_later : (x y z : List Parts) → set_is_before x y ≡ true → set_is_before y z ≡ true → set_is_before x z ≡ true
  set_later x y z a b = ap is_lt (total.trans x y z (less_is (set_cmp x y) a) (less_is (set_cmp y z) b))

  not_round : (x y : List Parts) → set_is_before x y ≡ true → set_is_before y x ≡ true → ⊥
  not_round x y a b = set_not_itself x (set_later x y x a b)

  -- lists in order that have the same members have the same first one
  heads_one : (x y : List Parts) (xs ys : List (List Parts)) → AreAscending (x ∷ xs) → AreAscending (y ∷ ys) → Contains (x ∷ xs) y → Contains (y ∷ ys) x
      → x ≡ y
  heads_one x y xs ys one other has_y has_x = elim (cases_in x xs y has_y) [
    | inl same ↦ same
    | inr later ↦ elim (cases_in y ys x has_x) [
      | inl same ↦ sym same
      | inr later_too ↦
          absurd (not_round x y (each-in (λ s. set_is_before x s ≡ true) xs one.0 y later) (each-in (λ s. set_is_before y s ≡ true) ys other.0 x later_too))
    ]
  ]

  -- and the same after it
  rest_in : (x : List Parts) (xs ys : List (List Parts)) → AreAscending (x ∷ xs) → ((s : List Parts) → Contains (x ∷ xs) s → Contains (x ∷ ys) s)
      → (s : List Parts) → Contains xs s → Contains ys s
  rest_in x xs ys ascends to s has = elim (cases_in x ys s (to s (Contains-more x xs s has))) [
    | inl same ↦ absurd (set_not_itself x (subst (λ t. set_is_before x t ≡ true) (sym same) (each-in (λ t. set_is_before x t ≡ true) xs ascends.0 s has)))
    | inr later ↦ later
  ]

  -- so they are one
  pub lists_one : (xs ys : List (List Parts)) → AreAscending xs → AreAscending ys → ((s : List Parts) → Contains xs s → Contains ys s)
      → ((s : List Parts) → Contains ys s → Contains xs s) → xs ≡ ys
  lists_one [] [] one other to from = refl
  lists_one [] (y ∷ ys) one other to from = absurd (none-in y (from y (Contains-first y ys)))
  lists_one (x ∷ xs) [] one other to from = absurd (none-in x (to x (Contains-first x xs)))
  lists_one (x ∷ xs) (y ∷ ys) one other to from =
      let same = heads_one x y xs ys one other (from y (Contains-first y ys)) (to x (Contains-first x xs)) in
      let Follows : List Parts → Type 0 =
      λ z. AreAscending (z ∷ ys) → ((s : List Parts) → Contains (x ∷ xs) s → Contains (z ∷ ys) s)
      → ((s : List Parts) → Contains (z ∷ ys) s → Contains (x ∷ xs) s) → (x ∷ xs) ≡ (z ∷ ys) in
      subst Follows same
      (λ after there back. ap (λ rest. x ∷ rest) (lists_one xs ys one.1 after.1 (rest_in x xs ys one there) (rest_in x ys xs after back)))
      other to from
