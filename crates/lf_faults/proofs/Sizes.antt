-- How many faults there are in a set and in a subset.
use Rattle.std.proofs.Common.{◌≡◌, ℕ, ◌+◌, ◌≤◌, Bool, true, List, [], ◌∷◌, length, refl, subst, arith, inl, inr}
use Rattle.std.specs.List.{Contains, count_by}
use Rattle.lf_faults.specs.declared.fault.Parts.{Parts}
use Rattle.lf_faults.specs.Faults.{IsAscending, inserted}
use Rattle.lf_faults.specs.Allowed.{IsSubset}
use Rattle.lf_faults.proofs.Counts.{at_most, member, length-inserted}
use Rattle.lf_faults.proofs.Members.{count-cons}
use Rattle.lf_faults.proofs.Orders.{inserted-ascending}
use Rattle.lf_faults.proofs.Sameness.{same_members, cases_inserted}

count-all : (fs : List Parts) → count_by (λ _. true) fs ≡ length fs
count-all [] = refl
count-all (f ∷ fs) = omega (arith, count-cons (λ _. true) f fs, count-all fs)

-- a subset isn't larger
no_larger : (fs gs : List Parts) → IsAscending fs → IsAscending gs → IsSubset fs gs → length fs ≤ length gs
no_larger fs gs a b sub =
    let fewer : count_by (λ _. true) fs ≤ count_by (λ _. true) gs = at_most (λ _. true) gs fs a b (λ f c _. sub f c) in
    omega (arith, fewer, count-all fs, count-all gs)

-- and where it isn't smaller either it is the set
pub large_subset : (fs gs : List Parts) → IsAscending fs → IsAscending gs → IsSubset fs gs → length gs ≤ length fs → fs ≡ gs
large_subset fs gs a b sub few =
    same_members fs gs a b sub (λ g there. elim (member fs g) [
      | inl here ↦ here
      | inr none ↦
          let wider : IsSubset (inserted g fs) gs = λ x c. elim (cases_inserted g fs x c) [
            | inl same ↦ subst (Contains gs) same there
            | inr old ↦ sub x old
          ] in
          let longer : length (inserted g fs) ≤ length gs = no_larger (inserted g fs) gs (inserted-ascending g fs none a) b wider in
          let never : ⊥ = omega (arith, longer, few, length-inserted g fs) in
          absurd never
    ])
