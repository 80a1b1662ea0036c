-- The orders of faults and of sets are total, and tell apart what differs.
use Rattle.std.proofs.Common.{◌≡◌, true, false, List, [], ◌∷◌, ◌++◌, length, refl, sym, ap, ◌∙◌, subst, inl, inr}
use Rattle.std.specs.Prelude.{◌⊎◌}
use Rattle.std.specs.List.{Contains, AllByRecursion}
use Rattle.std.specs.declared.cmp.Ordering.{Ordering}
use Rattle.std.specs.declared.cmp.Ordering.TheVariants.{Less, Equal, Greater}
use Rattle.std.specs.Ordering.{nat_cmp, ordering_then, ordering_reverse, is_lt}
use Rattle.std.specs.Cmp.{IsTotalOrder}
use Rattle.std.specs.Cmp.Lexicographic.{slice_cmp}
use Rattle.std.proofs.lemmas.Cmp.{on_total, then_total, lists_total, nat_cmp_total, tied_itself}
use Rattle.std.proofs.lemmas.Map.Lookups.{exact_unsigned}
use Rattle.std.proofs.lemmas.Bool.{cond_both, both_ways, false_from_ne_true}
use Rattle.lf_faults.specs.declared.fault.Parts.{Parts}
use Rattle.lf_faults.specs.declared.fault.Parts.TheVariants.{Omit, Crash, Pause}
use Rattle.lf_faults.specs.Faults.{step_of, rank_of, node_of, receiver_of, fault_cmp, is_before, IsAscending, inserted, set_cmp, set_is_before}
use Rattle.lf_list.proofs.Laws.{Contains-first, Contains-more, each-in}
use Rattle.lf_faults.proofs.Members.{each-left, each-weaker}

pub fault_total : IsTotalOrder fault_cmp
fault_total =
    then_total (on_total step_of nat_cmp_total)
    (then_total (on_total rank_of nat_cmp_total) (then_total (on_total node_of nat_cmp_total) (on_total receiver_of nat_cmp_total)))

pub set_total : IsTotalOrder set_cmp
set_total = then_total (on_total length nat_cmp_total) (lists_total fault_total)

pub then_Equal : (a b : Ordering) → ordering_then a b ≡ Equal → (a ≡ Equal) × (b ≡ Equal)
then_Equal Less b h = cc
then_Equal Equal b h = (refl, h)
then_Equal Greater b h = cc

pub Less-from : (o : Ordering) → is_lt o ≡ true → o ≡ Less
Less-from Less h = refl
Less-from Equal h = cc
Less-from Greater h = cc

-- two faults that compare equal are one
pub fault_exact : (f g : Parts) → fault_cmp f g ≡ Equal → f ≡ g
fault_exact (Omit n m t) (Omit from to step) h =
    let a = then_Equal (nat_cmp t step) _ h in
    let b = then_Equal (nat_cmp 0 0) _ a.1 in
    let c = then_Equal (nat_cmp n from) _ b.1 in
    let e₁ = exact_unsigned t step a.0 in let e₂ = exact_unsigned n from c.0 in let e₃ = exact_unsigned m to c.1 in
    cc
fault_exact (Crash n t) (Crash node step) h =
    let a = then_Equal (nat_cmp t step) _ h in
    let b = then_Equal (nat_cmp 1 1) _ a.1 in
    let c = then_Equal (nat_cmp n node) _ b.1 in
    let e₁ = exact_unsigned t step a.0 in let e₂ = exact_unsigned n node c.0 in
    cc
fault_exact (Pause n t) (Pause node step) h =
    let a = then_Equal (nat_cmp t step) _ h in
    let b = then_Equal (nat_cmp 2 2) _ a.1 in
    let c = then_Equal (nat_cmp n node) _ b.1 in
    let e₁ = exact_unsigned t step a.0 in let e₂ = exact_unsigned n node c.0 in
    cc
fault_exact (Omit n m t) (Crash node step) h = let a = then_Equal (nat_cmp t step) _ h in let c : Less ≡ Equal = a.1 in cc
fault_exact (Omit n m t) (Pause node step) h = let a = then_Equal (nat_cmp t step) _ h in let c : Less ≡ Equal = a.1 in cc
fault_exact (Crash n t) (Omit from to step) h = let a = then_Equal (nat_cmp t step) _ h in let c : Greater ≡ Equal = a.1 in cc
fault_exact (Crash n t) (Pause node step) h = let a = then_Equal (nat_cmp t step) _ h in let c : Less ≡ Equal = a.1 in cc
fault_exact (Pause n t) (Omit from to step) h = let a = then_Equal (nat_cmp t step) _ h in let c : Greater ≡ Equal = a.1 in cc
fault_exact (Pause n t) (Crash node step) h = let a = then_Equal (nat_cmp t step) _ h in let c : Greater ≡ Equal = a.1 in cc

lists_exact : (fs gs : List Parts) → slice_cmp fault_cmp fs gs ≡ Equal → fs ≡ gs
lists_exact [] [] h = refl
lists_exact [] (g ∷ gs) h = cc
lists_exact (f ∷ fs) [] h = cc
lists_exact (f ∷ fs) (g ∷ gs) h =
    let a = then_Equal (fault_cmp f g) (slice_cmp fault_cmp fs gs) h in
    let e₁ = fault_exact f g a.0 in let e₂ = lists_exact fs gs a.1 in
    cc

pub set_exact : (fs gs : List Parts) → set_cmp fs gs ≡ Equal → fs ≡ gs
set_exact fs gs h = lists_exact fs gs (then_Equal (nat_cmp (length fs) (length gs)) (slice_cmp fault_cmp fs gs) h).1

cases_Ordering : (o : Ordering) → (o ≡ Less) ⊎ ((o ≡ Equal) ⊎ (o ≡ Greater))
cases_Ordering Less = inl refl
cases_Ordering Equal = inr (inl refl)
cases_Ordering Greater = inr (inr refl)

cases_total : {K : Type 0} (R : K → K → Ordering) → IsTotalOrder R → ((x y : K) → R x y ≡ Equal → x ≡ y) → (x y : K)
    → (is_lt (R x y) ≡ true) ⊎ ((x ≡ y) ⊎ (is_lt (R y x) ≡ true))
cases_total R total exact x y = elim (cases_Ordering (R x y)) [
  | inl less ↦ inl (ap is_lt less)
  | inr rest ↦ elim rest [
    | inl equal ↦ inr (inl (exact x y equal))
    | inr greater ↦ inr (inr (ap is_lt (total.antisymm y x ∙ ap ordering_reverse greater)))
  ]
]

-- one comes before the other, or they are one
pub cases_faults : (f g : Parts) → (is_before f g ≡ true) ⊎ ((f ≡ g) ⊎ (is_before g f ≡ true))
cases_faults = cases_total fault_cmp fault_total fault_exact

pub cases_sets : (fs gs : List Parts) → (set_is_before fs gs ≡ true) ⊎ ((fs ≡ gs) ⊎ (set_is_before gs fs ≡ true))
cases_sets = cases_total set_cmp set_total set_exact

pub before_trans : (f g h : Parts) → is_before f g ≡ true → is_before g h ≡ true → is_before f h ≡ true
before_trans f g h a b = ap is_lt (fault_total.trans f g h (Less-from (fault_cmp f g) a) (Less-from (fault_cmp g h) b))

pub set_trans : (f g h : List Parts) → set_is_before f g ≡ true → set_is_before g h ≡ true → set_is_before f h ≡ true
set_trans f g h a b = ap is_lt (set_total.trans f g h (Less-from (set_cmp f g) a) (Less-from (set_cmp g h) b))

pub not_itself : (f : Parts) → is_before f f ≡ true → ⊥
not_itself f h = let e = Less-from (fault_cmp f f) h in let e' = tied_itself fault_total f in cc

pub set_not_itself : (fs : List Parts) → set_is_before fs fs ≡ true → ⊥
set_not_itself fs h = let e = Less-from (set_cmp fs fs) h in let e' = tied_itself set_total fs in cc

pub not_both : (f g : Parts) → is_before f g ≡ true → is_before g f ≡ true → ⊥
not_both f g a b = not_itself f (before_trans f g f a b)

pub not_after : (f g : Parts) → is_before f g ≡ true → is_before g f ≡ false
not_after f g a = false_from_ne_true (is_before g f) (not_both f g a)

pub set_not_after : (fs gs : List Parts) → set_is_before fs gs ≡ true → set_is_before gs fs ≡ false
set_not_after fs gs a = false_from_ne_true (set_is_before gs fs) (λ b. set_not_itself fs (set_trans fs gs fs a b))

-- not before, then it is the other or comes after it
pub before_or_same : (f g : Parts) → is_before f g ≡ false → (g ≡ f) ⊎ (is_before g f ≡ true)
before_or_same f g h = elim (cases_faults f g) [
  | inl before ↦ absurd (both_ways (is_before f g) h before)
  | inr rest ↦ elim rest [ inl same ↦ inl (sym same) | inr after ↦ inr after ]
]

-- h isn't before f, and g comes at f or before: h isn't before g
pub not_before_trans : (g f h : Parts) → is_before f g ≡ false → is_before h f ≡ false → is_before h g ≡ false
not_before_trans g f h a b = false_from_ne_true (is_before h g) (λ k. elim (before_or_same f g a) [
  | inl same ↦ both_ways (is_before h f) b (subst (λ x. is_before h x ≡ true) same k)
  | inr before ↦ both_ways (is_before h f) b (before_trans h g f k before)
])

-- an inserted fault
pub each-inserted : (P : Parts → Type 0) (f : Parts) (gs : List Parts) → P f → AllByRecursion P gs → AllByRecursion P (inserted f gs)
each-inserted P f [] p a = (p, tt)
each-inserted P f (g ∷ gs) p a =
    cond_both (is_before g f) (g ∷ inserted f gs) (f ∷ g ∷ gs) (AllByRecursion P) (λ _. (a.0, each-inserted P f gs p a.1)) (λ _. (p, a))

pub each-from_inserted : (P : Parts → Type 0) (f : Parts) (gs : List Parts) → AllByRecursion P (inserted f gs) → P f × AllByRecursion P gs
each-from_inserted P f [] a = (a.0, tt)
each-from_inserted P f (g ∷ gs) a = cond_both (is_before g f) (g ∷ inserted f gs) (f ∷ g ∷ gs) (λ xs. AllByRecursion P xs → P f × (P g × AllByRecursion P gs))
    (λ _ b. let rest = each-from_inserted P f gs b.1 in (rest.0, (b.0, rest.1))) (λ _ b. (b.0, b.1)) a

pub inserted-ascending : (f : Parts) (fs : List Parts) → (Contains fs f → ⊥) → IsAscending fs → IsAscending (inserted f fs)
inserted-ascending f [] h a = (tt, tt)
inserted-ascending f (g ∷ gs) h a =
    cond_both (is_before g f) (g ∷ inserted f gs) (f ∷ g ∷ gs) IsAscending
    (λ before. (each-inserted (λ x. is_before g x ≡ true) f gs before a.0, inserted-ascending f gs (λ k. h (Contains-more g gs f k)) a.1))
    (λ not_before.
    let after : is_before f g ≡ true = elim (before_or_same g f not_before) [
      | inl same ↦ absurd (h (subst (λ x. Contains (g ∷ gs) x) (sym same) (Contains-first g gs)))
      | inr after ↦ after
    ] in
    ((after, each-weaker (λ x. is_before g x ≡ true) (λ x. is_before f x ≡ true) (λ x b. before_trans f g x after b) gs a.0), a))

-- the first fault of an ascending list comes before the others
pub first-before : (f : Parts) (fs : List Parts) → IsAscending (f ∷ fs) → (g : Parts) → Contains fs g → is_before f g ≡ true
first-before f fs a = each-in (λ g. is_before f g ≡ true) fs a.0

pub ascending-from_inserted : (f : Parts) (fs : List Parts) → IsAscending (inserted f fs) → IsAscending fs
ascending-from_inserted f [] a = tt
ascending-from_inserted f (g ∷ gs) a = cond_both (is_before g f) (g ∷ inserted f gs) (f ∷ g ∷ gs) (λ xs. IsAscending xs → IsAscending (g ∷ gs))
    (λ _ b. ((each-from_inserted (λ x. is_before g x ≡ true) f gs b.0).1, ascending-from_inserted f gs b.1)) (λ _ b. b.1) a

-- a front of an ascending list
pub ascending-left : (xs ys : List Parts) → IsAscending (xs ++ ys) → IsAscending xs
ascending-left [] ys a = tt
ascending-left (x ∷ xs) ys a = (each-left (λ g. is_before x g ≡ true) xs ys a.0, ascending-left xs ys a.1)

pub ascending-right : (xs ys : List Parts) → IsAscending (xs ++ ys) → IsAscending ys
ascending-right [] ys a = a
ascending-right (x ∷ xs) ys a = ascending-right xs ys a.1
