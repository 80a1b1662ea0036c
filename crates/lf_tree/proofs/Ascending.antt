-- Lists of faults that ascend.
use Rattle.std.proofs.Common.{◌≡◌, ℕ, Bool, true, false, cond, List, [], ◌∷◌, ◌++◌, get_or, take, drop, length, ◌+◌, ◌<◌, suc, inl, inr, refl, sym, ap, ◌∙◌}
use Rattle.std.proofs.Common.{drop-cons}
use Rattle.std.proofs.lemmas.List.{take_more, take-append-drop}
use Rattle.std.specs.List.{list_all, Contains}
use Rattle.std.proofs.lemmas.Bool.{and_from, and_parts, and_left, and_right, and_cases, true≢false}
use Rattle.lf_list.proofs.Laws.{none-in, cases_in}
use Rattle.lf_faults.specs.declared.fault.Parts.{Parts}
use Rattle.lf_faults.specs.Faults.{is_before, inserted}
use Rattle.lf_faults.proofs.Laws.{not_itself}
use Rattle.lf_tree.specs.Trees.{is_ascending}

all-push : (P : Parts → Bool) (fs : List Parts) (f : Parts) → list_all P fs ≡ true → P f ≡ true → list_all P (fs ++ f ∷ []) ≡ true
all-push P [] f h k = and_from _ _ k refl
all-push P (g ∷ fs) f h k = let p = and_parts _ _ h in and_from _ _ p.0 (all-push P fs f p.1 k)

-- with one fault more at the end
pub ascending-push : (fs : List Parts) (f : Parts) → is_ascending fs ≡ true → list_all (λ g. is_before g f) fs ≡ true → is_ascending (fs ++ f ∷ []) ≡ true
ascending-push [] f h k = refl
ascending-push (g ∷ fs) f h k =
    let p = and_parts _ _ h in
    let q = and_parts _ _ k in
    and_from _ _ (all-push (is_before g) fs f p.0 q.0) (ascending-push fs f p.1 q.1)

all-not : (P : Parts → Bool) (fs : List Parts) (f : Parts) (more : List Parts) → P f ≡ false → list_all P (fs ++ f ∷ more) ≡ false
all-not P [] f more k = and_left _ _ k
all-not P (g ∷ fs) f more k = and_right _ _ (all-not P fs f more k)

-- where one of them isn't before the next, the list doesn't ascend
pub ascending-not : (fs : List Parts) (f : Parts) (more : List Parts) → list_all (λ g. is_before g f) fs ≡ false → is_ascending (fs ++ f ∷ more) ≡ false
ascending-not [] f more h = absurd (true≢false h)
ascending-not (g ∷ fs) f more h = elim (and_cases _ _ h) [
  | inl here ↦ and_left _ _ (all-not (is_before g) fs f more here)
  | inr later ↦ and_right _ _ (ascending-not fs f more later)
]

-- a fault that comes after the others goes last
pub inserted-last : (fs : List Parts) (f : Parts) → list_all (λ g. is_before g f) fs ≡ true → inserted f fs ≡ fs ++ f ∷ []
inserted-last [] f h = refl
inserted-last (g ∷ fs) f h =
    let p = and_parts _ _ h in
    ap (λ b. cond b (g ∷ inserted f fs) (f ∷ g ∷ fs)) p.0 ∙ ap (λ gs. g ∷ gs) (inserted-last fs f p.1)

-- and isn't among them
pub not-there : (fs : List Parts) (f : Parts) → list_all (λ g. is_before g f) fs ≡ true → Contains fs f → ⊥
not-there [] f h c = none-in f c
not-there (g ∷ fs) f h c =
    let p = and_parts _ _ h in
    elim (cases_in g fs f c) [
      | inl same ↦ not_itself f (sym (ap (λ x. is_before x f) same) ∙ p.0)
      | inr later ↦ not-there fs f p.1 later
    ]

split_at : (fs : List Parts) (i : ℕ) (f : Parts) → i < length fs → f ≡ get_or fs i f → take i fs ++ f ∷ drop (suc i) fs ≡ fs
split_at fs i f l is = ap (λ gs. take i fs ++ gs) (ap (λ g. g ∷ drop (suc i) fs) is ∙ sym (drop-cons fs i f l)) ∙ take-append-drop i fs

-- a loop over the faults stops at one that doesn't come after those before it,
pub stops : (fs set : List Parts) (i : ℕ) (f : Parts) → i < length fs → f ≡ get_or fs i f → set ≡ take i fs → list_all (λ g. is_before g f) set ≡ false
    → is_ascending fs ≡ false
stops fs set i f l is same h =
    sym (ap is_ascending (split_at fs i f l is)) ∙ ascending-not (take i fs) f (drop (suc i) fs) (sym (ap (list_all (λ g. is_before g f)) same) ∙ h)

-- and else goes on with a fault more
pub goes_on : (fs set next : List Parts) (i : ℕ) (f : Parts) → i < length fs → f ≡ get_or fs i f → set ≡ take i fs → is_ascending (take i fs) ≡ true
    → list_all (λ g. is_before g f) set ≡ true → next ≡ inserted f set → (next ≡ take (i + 1) fs) × (is_ascending (take (i + 1) fs) ≡ true)
goes_on fs set next i f l is same asc h made =
    let before : list_all (λ g. is_before g f) (take i fs) ≡ true = sym (ap (list_all (λ g. is_before g f)) same) ∙ h in
    let more : take i fs ++ f ∷ [] ≡ take (i + 1) fs = ap (λ g. take i fs ++ g ∷ []) is ∙ sym (take_more fs i f l) in
    (made ∙ ap (inserted f) same ∙ inserted-last (take i fs) f before ∙ more, sym (ap is_ascending more) ∙ ascending-push (take i fs) f asc before)
