-- A set without one of its faults.
use Rattle.std.proofs.Common.{◌≡◌, ℕ, zero, suc, ◌+◌, ◌<◌, ◌≤◌, true, List, [], ◌∷◌, ◌++◌, length, get_or, take, drop}
use Rattle.std.proofs.Common.{refl, sym, ap, ◌∙◌, subst, inl, inr, arith, append_assoc, add-one, length-append}
use Rattle.std.specs.List.{Contains}
use Rattle.std.proofs.lemmas.List.{append-nil, drop_all, drop_more}
use Rattle.lf_list.proofs.Laws.{Contains-first, Contains-more, cases_in, each-from, none-in}
use Rattle.lf_faults.specs.declared.fault.Parts.{Parts}
use Rattle.lf_faults.specs.declared.spec.Bounds.{Bounds}
use Rattle.lf_faults.specs.Allowed.{IsAllowed}
use Rattle.lf_faults.specs.Faults.{IsAscending, inserted, is_before}
use Rattle.lf_faults.proofs.Laws.{first-before, not_itself, subset_allowed}
use Rattle.lf_outcome.specs.declared.formula.Formula.{Formula}
use Rattle.lf_outcome.specs.Truth.{reaches}
use Rattle.lf_sim.specs.Runs.{World}
use Rattle.lf_why.specs.Sets.{without}

-- its faults are among those of the set, in the same order, and fewer
without-in : (set : List Parts) (place : ℕ) (f : Parts) → Contains (without set place) f → Contains set f
without-in [] zero f h = h
without-in [] (suc place) f h = h
without-in (g ∷ gs) zero f h = Contains-more g gs f h
without-in (g ∷ gs) (suc place) f h = elim (cases_in g (without gs place) f h) [
  | inl same ↦ subst (Contains (g ∷ gs)) same (Contains-first g gs)
  | inr later ↦ Contains-more g gs f (without-in gs place f later)
]

without-ascending : (set : List Parts) (place : ℕ) → IsAscending set → IsAscending (without set place)
without-ascending [] zero a = tt
without-ascending [] (suc place) a = tt
without-ascending (g ∷ gs) zero a = a.1
without-ascending (g ∷ gs) (suc place) a =
    (each-from (λ f. is_before g f ≡ true) (without gs place) (λ f h. first-before g gs a f (without-in gs place f h)), without-ascending gs place a.1)

without-length : (set : List Parts) (place : ℕ) → place < length set → length (without set place) < length set
without-length [] place within = absurd (omega (arith, within))
without-length (g ∷ gs) zero within = omega arith
without-length (g ∷ gs) (suc place) within = omega (arith, without-length gs place (omega (arith, within)))

pub without_allowed : (b : Bounds) (set : List Parts) (place : ℕ) → IsAllowed b set → IsAllowed b (without set place)
without_allowed b set place a = subset_allowed b set (without set place) a (without-ascending set place a.ascending) (without-in set place)

pub without_reaches : {State Note Fact : Type 0} (w : World State Note Fact) (b : Bounds) (formula : Formula Fact) (set : List Parts) (place : ℕ)
    → IsAllowed b set
    → ((fewer : List Parts) → IsAllowed b fewer → length fewer < length set → reaches w fewer formula ≡ true)
    → place < length set → reaches w (without set place) formula ≡ true
without_reaches w b formula set place a fewest within = fewest (without set place) (without_allowed b set place a) (without-length set place within)

-- a fault that stands behind others, in order: it is put behind them, and isn't there yet
middle : (fs : List Parts) (f : Parts) (rest : List Parts) → Contains (fs ++ f ∷ rest) f
middle [] f rest = Contains-first f rest
middle (g ∷ gs) f rest = Contains-more g (gs ++ f ∷ rest) f (middle gs f rest)

inserted-behind : (f : Parts) (fs rest : List Parts) → IsAscending (fs ++ f ∷ rest) → inserted f fs ≡ fs ++ f ∷ []
inserted-behind f [] rest a = refl
inserted-behind f (g ∷ gs) rest a =
    let before : is_before g f ≡ true = first-before g (gs ++ f ∷ rest) a f (middle gs f rest) in
    rw (before, inserted-behind f gs rest a.1) refl

new-behind : (f : Parts) (fs rest : List Parts) → IsAscending (fs ++ f ∷ rest) → Contains fs f → ⊥
new-behind f [] rest a h = none-in f h
new-behind f (g ∷ gs) rest a h = elim (cases_in g gs f h) [
  | inl same ↦ not_itself f (subst (λ x. is_before x f ≡ true) same (first-before g (gs ++ f ∷ rest) a f (middle gs f rest)))
  | inr later ↦ new-behind f gs rest a.1 later
]

-- the faults behind the place are put behind those before it, one by one
module _ (set items : List Parts) (place : ℕ) (same : items ≡ set) where
  pub at_start : (rest : List Parts) → rest ≡ take place set → rest ++ drop (place + 1) items ≡ without set place
  at_start rest is = rw (same, is, add-one) refl

  module _ (rest : List Parts) (later : ℕ) (f : Parts) (whole : rest ++ drop later items ≡ without set place) (within : later < length items)
      (is : f ≡ get_or items later f) (ascending : IsAscending set) where
    split : drop later items ≡ f ∷ drop (later + 1) items
    split = drop_more items later f within ∙ ap (λ g. g ∷ drop (later + 1) items) (sym is)

    parts : without set place ≡ rest ++ f ∷ drop (later + 1) items
    parts = sym whole ∙ ap (λ more. rest ++ more) split

    in_order : IsAscending (rest ++ f ∷ drop (later + 1) items)
    in_order = subst IsAscending parts (without-ascending set place ascending)

    pub is_new : Contains rest f → ⊥
    is_new = new-behind f rest (drop (later + 1) items) in_order

    pub has_room : length set ≤ 6 → place < length set → length rest < 6
    has_room few inside =
        let fewer = without-length set place inside in
        let sizes : length (without set place) ≡ length rest + length (f ∷ drop (later + 1) items) =
        ap length parts ∙ length-append rest (f ∷ drop (later + 1) items) in
        omega (arith, few, fewer, sizes)

    pub one_more : (more : List Parts) → more ≡ inserted f rest → more ++ drop (later + 1) items ≡ without set place
    one_more more put =
        ap (λ front. front ++ drop (later + 1) items) (put ∙ inserted-behind f rest (drop (later + 1) items) in_order)
        ∙ append_assoc rest (f ∷ []) (drop (later + 1) items) ∙ sym parts

  pub at_end : (rest : List Parts) (later : ℕ) → rest ++ drop later items ≡ without set place → length items ≤ later → rest ≡ without set place
  at_end rest later whole far = sym (append-nil rest) ∙ ap (λ more. rest ++ more) (sym (drop_all later items far)) ∙ whole
