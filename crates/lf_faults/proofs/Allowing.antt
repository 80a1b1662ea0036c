-- Allowed sets: one fault more, a part of one, and how a smaller one grows.
use Rattle.std.proofs.Common.{◌≡◌, ℕ, ◌+◌, ◌<◌, ◌≤◌, Bool, true, false, cond, nat_eq, List, [], ◌∷◌, length, refl, sym, ap, ◌∙◌, subst, arith, inl, inr, eq-eqb}
use Rattle.std.specs.List.{Contains, count_by}
use Rattle.std.proofs.lemmas.Bool.{cases_eq, cases_lt, ne_eqb, eqb-true}
use Rattle.lf_faults.specs.declared.fault.Parts.{Parts}
use Rattle.lf_faults.specs.declared.fault.Parts.TheVariants.{Omit, Crash, Pause}
use Rattle.lf_faults.specs.Faults.{IsAscending, inserted}
use Rattle.lf_faults.specs.Allowed.{Bounds, IsAdmitted, IsAllowed, IsSubset, CanAdd, HasRoom, is_omission, is_crash, is_pause, is_crash_of, is_pause_of}
use Rattle.lf_list.proofs.Laws.{each-in, each-from}
use Rattle.lf_faults.proofs.Members.{counted, uncounted, one-is, none-is, count-cons}
use Rattle.lf_faults.proofs.Orders.{each-inserted, each-from_inserted, inserted-ascending, ascending-from_inserted}
use Rattle.lf_faults.proofs.Counts.{count-inserted, length-inserted, still-in, at_most, fresh, total, total-zero, total-one, total_less, count-total}

once_more : (c k node n : ℕ) → c ≡ cond (nat_eq n node) 1 0 + k → k ≤ 1 → (n ≡ node → k ≡ 0) → c ≤ 1
once_more c k node n is few none = elim (cases_eq n node) [
  | inl same ↦ omega (arith, is, none same, one-is (nat_eq n node) (eq-eqb n node same))
  | inr other ↦ omega (arith, is, few, none-is (nat_eq n node) (ne_eqb n node other))
]

module _ (b : Bounds) (fs : List Parts) (allowed : IsAllowed b fs) where
  pub allowed_more : (f : Parts) → IsAdmitted b f → (Contains fs f → ⊥) → length fs < b.budget → HasRoom b fs f → IsAllowed b (inserted f fs)
  allowed_more (Omit n m t) is none few room = record {
    ascending = inserted-ascending (Omit n m t) fs none allowed.ascending;
    admitted = each-inserted (IsAdmitted b) (Omit n m t) fs is allowed.admitted;
    crash_once = λ k h. omega (arith, count-inserted (is_crash_of k) (Omit n m t) fs, allowed.crash_once k h);
    pause_once = λ k h. omega (arith, count-inserted (is_pause_of k) (Omit n m t) fs, allowed.pause_once k h);
    crashes = omega (arith, count-inserted is_crash (Omit n m t) fs, allowed.crashes);
    pauses = omega (arith, count-inserted is_pause (Omit n m t) fs, allowed.pauses);
    budget = omega (arith, length-inserted (Omit n m t) fs, few);
  }
  allowed_more (Crash n t) is none few room = record {
    ascending = inserted-ascending (Crash n t) fs none allowed.ascending;
    admitted = each-inserted (IsAdmitted b) (Crash n t) fs is allowed.admitted;
    crash_once =
        λ k h. once_more _ _ n k (count-inserted (is_crash_of k) (Crash n t) fs) (allowed.crash_once k h)
        (λ e. ap (λ x. count_by (is_crash_of x) fs) e ∙ room.0);
    pause_once = λ k h. omega (arith, count-inserted (is_pause_of k) (Crash n t) fs, allowed.pause_once k h);
    crashes = omega (arith, count-inserted is_crash (Crash n t) fs, room.1);
    pauses = omega (arith, count-inserted is_pause (Crash n t) fs, allowed.pauses);
    budget = omega (arith, length-inserted (Crash n t) fs, few);
  }
  allowed_more (Pause n t) is none few room = record {
    ascending = inserted-ascending (Pause n t) fs none allowed.ascending;
    admitted = each-inserted (IsAdmitted b) (Pause n t) fs is allowed.admitted;
    crash_once = λ k h. omega (arith, count-inserted (is_crash_of k) (Pause n t) fs, allowed.crash_once k h);
    pause_once =
        λ k h. once_more _ _ n k (count-inserted (is_pause_of k) (Pause n t) fs) (allowed.pause_once k h)
        (λ e. ap (λ x. count_by (is_pause_of x) fs) e ∙ room.0);
    crashes = omega (arith, count-inserted is_crash (Pause n t) fs, allowed.crashes);
    pauses = omega (arith, count-inserted is_pause (Pause n t) fs, room.1);
    budget = omega (arith, length-inserted (Pause n t) fs, few);
  }

-- and it needs all that
one_itself : (n k : ℕ) → cond {A = ℕ} (nat_eq n n) 1 0 + k ≤ 1 → k ≡ 0
one_itself n k h = omega (arith, h, one-is (nat_eq n n) (eq-eqb n n refl))

pub room-from_allowed : (b : Bounds) (fs : List Parts) (f : Parts) → IsAllowed b (inserted f fs) → HasRoom b fs f
room-from_allowed b fs (Omit n m t) h = tt
room-from_allowed b fs (Crash n t) h =
    let is = (each-from_inserted (IsAdmitted b) (Crash n t) fs h.admitted).0 in (
      one_itself n (count_by (is_crash_of n) fs) (subst (λ c. c ≤ 1) (count-inserted (is_crash_of n) (Crash n t) fs) (h.crash_once n is.0)),
      omega (arith, count-inserted is_crash (Crash n t) fs, h.crashes),
    )
room-from_allowed b fs (Pause n t) h =
    let is = (each-from_inserted (IsAdmitted b) (Pause n t) fs h.admitted).0 in (
      one_itself n (count_by (is_pause_of n) fs) (subst (λ c. c ≤ 1) (count-inserted (is_pause_of n) (Pause n t) fs) (h.pause_once n is.0)),
      omega (arith, count-inserted is_pause (Pause n t) fs, h.pauses),
    )

pub budget-from_allowed : (b : Bounds) (fs : List Parts) (f : Parts) → IsAllowed b (inserted f fs) → length fs < b.budget
budget-from_allowed b fs f h = omega (arith, length-inserted f fs, h.budget)

pub admitted-from_allowed : (b : Bounds) (fs : List Parts) (f : Parts) → IsAllowed b (inserted f fs) → IsAdmitted b f
admitted-from_allowed b fs f h = (each-from_inserted (IsAdmitted b) f fs h.admitted).0

-- the three kinds
count-kinds : (fs : List Parts) → length fs ≡ count_by is_omission fs + (count_by is_crash fs + count_by is_pause fs)
count-kinds [] = refl
count-kinds (f ∷ fs) =
    omega (arith, count-kinds fs, count-cons is_omission f fs, count-cons is_crash f fs, count-cons is_pause f fs, one_kind f)
  where
    one_kind : (f : Parts) → cond (is_omission f) 1 0 + (cond (is_crash f) 1 0 + cond (is_pause f) 1 0) ≡ 1
    one_kind (Omit n m t) = refl
    one_kind (Crash n t) = refl
    one_kind (Pause n t) = refl

-- a part of an allowed set is allowed
pub subset_allowed : (b : Bounds) (gs fs : List Parts) → IsAllowed b gs → IsAscending fs → IsSubset fs gs → IsAllowed b fs
subset_allowed b gs fs h a sub =
    let fewer : (p : Parts → Bool) → count_by p fs ≤ count_by p gs = λ p. at_most p gs fs a h.ascending (λ f k _. sub f k) in
    record {
      ascending = a;
      admitted = each-from (IsAdmitted b) fs (λ f k. each-in (IsAdmitted b) gs h.admitted f (sub f k));
      crash_once = λ n k. omega (arith, fewer (is_crash_of n), h.crash_once n k);
      pause_once = λ n k. omega (arith, fewer (is_pause_of n), h.pause_once n k);
      crashes = omega (arith, fewer is_crash, h.crashes);
      pauses = omega (arith, fewer is_pause, h.pauses);
      budget = omega (arith, count-kinds fs, count-kinds gs, fewer is_omission, fewer is_crash, fewer is_pause, h.budget);
    }

-- crashes and pauses by node
crash-total : (b : Bounds) (f : Parts) → IsAdmitted b f → cond (is_crash f) 1 0 ≡ total (λ k. cond (is_crash_of k f) 1 0) b.nodes
crash-total b (Omit n m t) h = sym (total-zero b.nodes)
crash-total b (Crash n t) h = sym (total-one n b.nodes h.0)
crash-total b (Pause n t) h = sym (total-zero b.nodes)

pause-total : (b : Bounds) (f : Parts) → IsAdmitted b f → cond (is_pause f) 1 0 ≡ total (λ k. cond (is_pause_of k f) 1 0) b.nodes
pause-total b (Omit n m t) h = sym (total-zero b.nodes)
pause-total b (Crash n t) h = sym (total-zero b.nodes)
pause-total b (Pause n t) h = sym (total-one n b.nodes h.0)

-- of two allowed sets the smaller can take a fault of the larger
abbrev pub Grows : Bounds → List Parts → List Parts → Type 0
Grows b fs gs = (f : Parts) × Contains gs f × (Contains fs f → ⊥) × IsAllowed b (inserted f fs)

module _ (b : Bounds) (fs gs : List Parts) (small : IsAllowed b fs) (large : IsAllowed b gs) (less : length fs < length gs) where
  few : length fs < b.budget
  few = omega (arith, less, large.budget)

  by_omission : count_by is_omission fs < count_by is_omission gs → Grows b fs gs
  by_omission h =
      let found = fresh is_omission fs gs large.ascending small.ascending h in
      (found.0, found.1, found.3, allowed_more b fs small found.0 (each-in (IsAdmitted b) gs large.admitted found.0 found.1) found.3 few (room found.0 found.2))
    where
      room : (f : Parts) → is_omission f ≡ true → HasRoom b fs f
      room (Omit n m t) e = tt
      room (Crash n t) e = let no : false ≡ true = e in absurd (cc)
      room (Pause n t) e = let no : false ≡ true = e in absurd (cc)

  by_crash : count_by is_crash fs < count_by is_crash gs → Grows b fs gs
  by_crash h =
      let of_small = count-total (IsAdmitted b) is_crash is_crash_of b.nodes (crash-total b) fs small.admitted in
      let of_large = count-total (IsAdmitted b) is_crash is_crash_of b.nodes (crash-total b) gs large.admitted in
      let at = total_less (λ k. count_by (is_crash_of k) fs) (λ k. count_by (is_crash_of k) gs) b.nodes (omega (arith, h, of_small, of_large)) in
      let found = counted (is_crash_of at.0) gs (omega (arith, at.2)) in
      let none : count_by (is_crash_of at.0) fs ≡ 0 = omega (arith, at.2, large.crash_once at.0 at.1) in
      let other : Contains fs found.0 → ⊥ = λ k. uncounted (is_crash_of at.0) fs none found.0 k found.2 in (
        found.0,
        found.1,
        other,
        allowed_more b fs small found.0 (each-in (IsAdmitted b) gs large.admitted found.0 found.1) other few (room at.0 none found.0 found.2),
      )
    where
      room : (n : ℕ) → count_by (is_crash_of n) fs ≡ 0 → (f : Parts) → is_crash_of n f ≡ true → HasRoom b fs f
      room n none (Omit k m t) e = tt
      room n none (Crash k t) e = (ap (λ x. count_by (is_crash_of x) fs) (sym (eqb-true n k e)) ∙ none, omega (arith, h, large.crashes))
      room n none (Pause k t) e = let no : false ≡ true = e in absurd (cc)

  by_pause : count_by is_pause fs < count_by is_pause gs → Grows b fs gs
  by_pause h =
      let of_small = count-total (IsAdmitted b) is_pause is_pause_of b.nodes (pause-total b) fs small.admitted in
      let of_large = count-total (IsAdmitted b) is_pause is_pause_of b.nodes (pause-total b) gs large.admitted in
      let at = total_less (λ k. count_by (is_pause_of k) fs) (λ k. count_by (is_pause_of k) gs) b.nodes (omega (arith, h, of_small, of_large)) in
      let found = counted (is_pause_of at.0) gs (omega (arith, at.2)) in
      let none : count_by (is_pause_of at.0) fs ≡ 0 = omega (arith, at.2, large.pause_once at.0 at.1) in
      let other : Contains fs found.0 → ⊥ = λ k. uncounted (is_pause_of at.0) fs none found.0 k found.2 in (
        found.0,
        found.1,
        other,
        allowed_more b fs small found.0 (each-in (IsAdmitted b) gs large.admitted found.0 found.1) other few (room at.0 none found.0 found.2),
      )
    where
      room : (n : ℕ) → count_by (is_pause_of n) fs ≡ 0 → (f : Parts) → is_pause_of n f ≡ true → HasRoom b fs f
      room n none (Omit k m t) e = tt
      room n none (Crash k t) e = let no : false ≡ true = e in absurd (cc)
      room n none (Pause k t) e = (ap (λ x. count_by (is_pause_of x) fs) (sym (eqb-true n k e)) ∙ none, omega (arith, h, large.pauses))

  pub grows : Grows b fs gs
  grows = elim (cases_lt (count_by is_omission fs) (count_by is_omission gs)) [
    | inl omissions ↦ by_omission omissions
    | inr enough ↦ elim (cases_lt (count_by is_crash fs) (count_by is_crash gs)) [
      | inl crashes ↦ by_crash crashes
      | inr enough_too ↦ by_pause (omega (arith, less, count-kinds fs, count-kinds gs, enough, enough_too))
    ]
  ]

-- what `fits` tests
pub can_add-iff : (b : Bounds) (fs : List Parts) (f : Parts) → IsAllowed b fs → IsAdmitted b f → (Contains fs f → ⊥) → length fs < b.budget
    → (HasRoom b fs f → CanAdd b fs f) × (CanAdd b fs f → HasRoom b fs f)
can_add-iff b fs f allowed is none few = (λ room. (none, allowed_more b fs allowed f is none few room), λ can. room-from_allowed b fs f can.1)

pub subset-inserted : (f : Parts) (fs : List Parts) → IsSubset fs (inserted f fs)
subset-inserted f fs x h = still-in f fs x h

pub less_allowed : (b : Bounds) (fs : List Parts) (f : Parts) → IsAllowed b (inserted f fs) → IsAllowed b fs
less_allowed b fs f h = subset_allowed b (inserted f fs) fs h (ascending-from_inserted f fs h.ascending) (subset-inserted f fs)
