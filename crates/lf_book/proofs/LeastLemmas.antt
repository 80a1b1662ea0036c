-- The sets of paths: each once, also in another order, and in order where they are sorted.
use Rattle.std.proofs.Common.{◌≡◌, ◌≢◌, ℕ, suc, ◌<◌, true, false, List, [], ◌∷◌, length, get_or, refl, sym, ap, ◌∙◌}
use Rattle.std.proofs.Common.{arith, inl, inr, swap, IsPermutation}
use Rattle.std.specs.Prelude.{◌⊎◌, ◌↔◌}
use Rattle.std.specs.Cmp.{IsStrictWeakOrder}
use Rattle.std.specs.List.{Contains}
use Rattle.std.specs.List.Sorted.{IsSortedBy}
use Rattle.std.proofs.lemmas.Bool.{cases_eq}
use Rattle.std.proofs.lemmas.List.Edits.{swapped_from_swap, length-swap}
use Rattle.std.proofs.lemmas.List.Elements.{recursion_from_All}
use Rattle.std.proofs.lemmas.List.Sorted.{IsPermutation-keeps, IsPermutation-sym, Contains-permutation, sorted_far}
use Rattle.lf_faults.specs.declared.fault.Parts.{Parts}
use Rattle.lf_faults.specs.Faults.{set_is_before}
use Rattle.lf_faults.proofs.Laws.{cases_sets}
use Rattle.lf_certificate.specs.Levels.{AreAscending}
use Rattle.lf_book.specs.Finished.{AreDifferent}

-- where the sets are swapped, the places are
abbrev Moved : ℕ → ℕ → ℕ → ℕ → Type 0
Moved a b m n = ((m ≡ a) × (n ≡ b)) ⊎ (((m ≢ a) × (m ≡ b) × (n ≡ a)) ⊎ ((m ≢ a) × (m ≢ b) × (n ≡ m)))

moved : (a b m : ℕ) → (n : ℕ) × Moved a b m n
moved a b m = elim (cases_eq m a) [
  | inl here ↦ (b, inl (here, refl))
  | inr other ↦ elim (cases_eq m b) [
    | inl there ↦ (a, inr (inl (other, there, refl)))
    | inr apart ↦ (m, inr (inr (other, apart, refl)))
  ]
]

moved_one : (a b i j m n : ℕ) → Moved a b i m → Moved a b j n → m ≡ n → i ≡ j
moved_one a b i j m n (inl x) (inl y) same = omega (arith, x.0, y.0)
moved_one a b i j m n (inl x) (inr (inl y)) same = absurd (y.0 (omega (arith, x.0, x.1, y.1, y.2, same)))
moved_one a b i j m n (inl x) (inr (inr y)) same = absurd (y.1 (omega (arith, x.1, y.2, same)))
moved_one a b i j m n (inr (inl x)) (inl y) same = absurd (x.0 (omega (arith, y.0, y.1, x.1, x.2, same)))
moved_one a b i j m n (inr (inl x)) (inr (inl y)) same = omega (arith, x.1, y.1)
moved_one a b i j m n (inr (inl x)) (inr (inr y)) same = absurd (y.0 (omega (arith, x.2, y.2, same)))
moved_one a b i j m n (inr (inr x)) (inl y) same = absurd (x.1 (omega (arith, y.1, x.2, same)))
moved_one a b i j m n (inr (inr x)) (inr (inl y)) same = absurd (x.0 (omega (arith, y.2, x.2, same)))
moved_one a b i j m n (inr (inr x)) (inr (inr y)) same = omega (arith, x.2, y.2, same)

-- the first of two moved places is one of the list
moved_within : (a b m n few : ℕ) → a < few → b < few → m < few → Moved a b m n → n < few
moved_within a b m n few in_a in_b in_m (inl x) = omega (arith, x.1)
moved_within a b m n few in_a in_b in_m (inr (inl x)) = omega (arith, x.2)
moved_within a b m n few in_a in_b in_m (inr (inr x)) = omega (arith, x.2)

moved_is : (sets : List (List Parts)) (a b m n : ℕ) (d : List Parts) → a < length sets → b < length sets → Moved a b m n
    → get_or (swap sets a b) m d ≡ get_or sets n d
moved_is sets a b m n d in_a in_b (inl x) =
    let s = swapped_from_swap sets (swap sets a b) a b d in_a in_b refl in
    ap (λ k. get_or (swap sets a b) k d) x.0 ∙ s.0 ∙ ap (λ k. get_or sets k d) (sym x.1)
moved_is sets a b m n d in_a in_b (inr (inl x)) =
    let s = swapped_from_swap sets (swap sets a b) a b d in_a in_b refl in
    ap (λ k. get_or (swap sets a b) k d) x.1 ∙ s.1 ∙ ap (λ k. get_or sets k d) (sym x.2)
moved_is sets a b m n d in_a in_b (inr (inr x)) =
    let s = swapped_from_swap sets (swap sets a b) a b d in_a in_b refl in
    s.2 m x.0 x.1 ∙ ap (λ k. get_or sets k d) (sym x.2)

different_swap : (sets : List (List Parts)) (a b : ℕ) → a < length sets → b < length sets → AreDifferent sets → AreDifferent (swap sets a b)
different_swap sets a b in_a in_b different i j d in_i in_j same =
    let size = length-swap sets a b in
    let m = moved a b i in
    let n = moved a b j in
    moved_one a b i j m.0 n.0 m.1 n.1
    (different m.0 n.0 d (moved_within a b i m.0 (length sets) in_a in_b (omega (arith, size, in_i)) m.1)
    (moved_within a b j n.0 (length sets) in_a in_b (omega (arith, size, in_j)) n.1)
    (sym (moved_is sets a b i m.0 d in_a in_b m.1) ∙ same ∙ moved_is sets a b j n.0 d in_a in_b n.1))

-- different sets are different in another order
pub different_permuted : (sets others : List (List Parts)) → IsPermutation sets others → AreDifferent sets → AreDifferent others
different_permuted sets others moves different =
    IsPermutation-keeps sets AreDifferent different (λ l i j in_i in_j d. different_swap l i j in_i in_j d) others moves

-- and if they are sorted they ascend
far-ascending : (sets : List (List Parts))
    → ((i j : ℕ) (d : List Parts) → i < j → j < length sets → set_is_before (get_or sets i d) (get_or sets j d) ≡ true) → AreAscending sets
far-ascending [] far = tt
far-ascending (x ∷ xs) far = (
  recursion_from_All (λ other. set_is_before x other ≡ true) xs (λ k d few. far 0 (suc k) d (omega arith) (omega (arith, few))),
  far-ascending xs (λ i j d less few. far (suc i) (suc j) d (omega arith) (omega (arith, few))),
)

pub sorted_ascend : (sets : List (List Parts)) → IsStrictWeakOrder set_is_before → IsSortedBy set_is_before sets → AreDifferent sets → AreAscending sets
sorted_ascend sets order sorted different =
    far-ascending sets (λ i j d less few. elim (cases_sets (get_or sets i d) (get_or sets j d)) [
      | inl before ↦ before
      | inr (inl same) ↦
          let one : i ≡ j = different i j d (omega arith) few same in
          absurd (omega (arith, one, less))
      | inr (inr after) ↦
          let not_after : set_is_before (get_or sets j d) (get_or sets i d) ≡ false = sorted_far set_is_before order sets sorted i j d (omega arith) few in
          let never : true ≡ false = sym after ∙ not_after in
          absurd cc
    ])

-- the members stay in another order
pub members_permuted : (P : List Parts → Type 0) (sets others : List (List Parts)) → IsPermutation sets others
    → ((faults : List Parts) → Contains sets faults ↔ P faults) → (faults : List Parts) → Contains others faults ↔ P faults
members_permuted P sets others moves members faults = (
  λ h. (members faults).0 (Contains-permutation others sets faults (IsPermutation-sym sets others moves) h),
  λ p. Contains-permutation sets others faults moves ((members faults).1 p),
)
