-- Members of an ascending list with one fault more, and of two ascending lists.
use Rattle.std.proofs.Common.{◌≡◌, List, [], ◌∷◌, refl, sym, ap, ◌∙◌, subst, inl, inr}
use Rattle.std.specs.Prelude.{◌⊎◌}
use Rattle.std.specs.List.{Contains}
use Rattle.lf_list.proofs.Laws.{none-in, Contains-first, Contains-more, cases_in, each-in, each-from}
use Rattle.lf_faults.specs.declared.fault.Parts.{Parts}
use Rattle.lf_faults.specs.Faults.{IsAscending, inserted}
use Rattle.lf_faults.specs.Allowed.{IsSubset}
use Rattle.lf_faults.proofs.Orders.{each-inserted, first-before, not_both, not_itself}

pub cases_inserted : (f : Parts) (fs : List Parts) (x : Parts) → Contains (inserted f fs) x → (f ≡ x) ⊎ Contains fs x
cases_inserted f fs x h =
    each-in (λ y. (f ≡ y) ⊎ Contains fs y) (inserted f fs)
    (each-inserted (λ y. (f ≡ y) ⊎ Contains fs y) f fs (inl refl) (each-from (λ y. (f ≡ y) ⊎ Contains fs y) fs (λ y there. inr there))) x h

-- two ascending lists with the same members have one head
same_head : (f g : Parts) (fs gs : List Parts) → IsAscending (f ∷ fs) → IsAscending (g ∷ gs) → Contains (g ∷ gs) f → Contains (f ∷ fs) g → f ≡ g
same_head f g fs gs a b here there = elim (cases_in g gs f here) [
  | inl same ↦ sym same
  | inr later ↦ elim (cases_in f fs g there) [
    | inl same ↦ same
    | inr after ↦ absurd (not_both f g (first-before f fs a g after) (first-before g gs b f later))
  ]
]

later_in : (f g : Parts) (fs gs : List Parts) → IsAscending (f ∷ fs) → f ≡ g → (x : Parts) → Contains fs x → Contains (g ∷ gs) x → Contains gs x
later_in f g fs gs a heads x there here = elim (cases_in g gs x here) [
  | inl same ↦ absurd (not_itself f (first-before f fs a f (subst (Contains fs) (sym (heads ∙ same)) there)))
  | inr later ↦ later
]

-- and are one
pub same_members : (fs gs : List Parts) → IsAscending fs → IsAscending gs → IsSubset fs gs → IsSubset gs fs → fs ≡ gs
same_members [] [] a b to from = refl
same_members [] (g ∷ gs) a b to from = absurd (none-in g (from g (Contains-first g gs)))
same_members (f ∷ fs) [] a b to from = absurd (none-in f (to f (Contains-first f fs)))
same_members (f ∷ fs) (g ∷ gs) a b to from =
    let heads : f ≡ g = same_head f g fs gs a b (to f (Contains-first f fs)) (from g (Contains-first g gs)) in
    let tails : fs ≡ gs =
    same_members fs gs a.1 b.1 (λ x h. later_in f g fs gs a heads x h (to x (Contains-more f fs x h)))
    (λ x h. later_in g f gs fs b (sym heads) x h (from x (Contains-more g gs x h))) in
    ap (λ k. k ∷ fs) heads ∙ ap (λ ks. g ∷ ks) tails
