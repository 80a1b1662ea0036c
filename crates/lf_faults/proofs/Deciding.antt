-- Whether a list of faults is allowed, and whether some allowed list has a property, can be decided.
use Rattle.std.proofs.Common.{◌≡◌, ℕ, zero, suc, ◌<◌, ◌≤◌, Bool, true, List, [], ◌∷◌, length, arith, inl, inr}
use Rattle.std.specs.List.{AllByRecursion, count_by}
use Rattle.lf_list.proofs.Laws.{Decided, decide_both, decide_iff, decide_is, decide_le, decide_apart, decide_each, decide_each_below, decide_some_below}
use Rattle.lf_faults.specs.declared.fault.Parts.{Parts}
use Rattle.lf_faults.specs.declared.fault.Parts.TheVariants.{Omit, Crash, Pause}
use Rattle.lf_faults.specs.Faults.{is_before, IsAscending}
use Rattle.lf_faults.specs.Allowed.{Bounds, IsAdmitted, IsAllowed, is_crash, is_pause, is_crash_of, is_pause_of}

-- a fault of the bounds
at_point : (b : Bounds) (n t : ℕ) → Decided ((n < b.nodes) × (1 ≤ t) × (t ≤ b.horizon))
at_point b n t =
    decide_iff _ _ (λ h. (h.0, h.1.0, h.1.1)) (λ h. (h.0, (h.1, h.2)))
    (decide_both _ _ (decide_le (suc n) b.nodes) (decide_both _ _ (decide_le 1 t) (decide_le t b.horizon)))

pub is_admitted : (b : Bounds) (f : Parts) → Decided (IsAdmitted b f)
is_admitted b (Omit n m t) =
    decide_iff _ _ (λ h. (h.0, h.1.0, h.1.1.0, h.1.1.1.0, h.1.1.1.1)) (λ h. (h.0, (h.1, (h.2, (h.3, h.4)))))
    (decide_both _ _ (decide_le (suc n) b.nodes) (decide_both _ _ (decide_le (suc m) b.nodes)
    (decide_both _ _ (decide_apart n m) (decide_both _ _ (decide_le 1 t) (decide_le t b.last_omission)))))
is_admitted b (Crash n t) = at_point b n t
is_admitted b (Pause n t) = at_point b n t

module _ (b : Bounds) (P : Parts → Type 0) (d : (f : Parts) → Decided (P f)) where
  abbrev Found : (ℕ → ℕ → Parts) → ℕ → Type 0
  Found make steps = (n : ℕ) × (n < b.nodes) × ((t : ℕ) × (t < suc steps) × (IsAdmitted b (make n t) × P (make n t)))

  some_of : (make : ℕ → ℕ → Parts) (steps : ℕ) → Decided (Found make steps)
  some_of make steps =
      decide_some_below _ (λ n. decide_some_below _ (λ t. decide_both _ _ (is_admitted b (make n t)) (d (make n t))) (suc steps)) b.nodes

  some_omission : Decided ((m : ℕ) × (m < b.nodes) × Found (λ n t. Omit n m t) b.last_omission)
  some_omission = decide_some_below _ (λ m. some_of (λ n t. Omit n m t) b.last_omission) b.nodes

  abbrev Some_fault : Type 0
  Some_fault = (f : Parts) × IsAdmitted b f × P f

  no_fault : (((m : ℕ) × (m < b.nodes) × Found (λ n t. Omit n m t) b.last_omission) → ⊥) → (Found Crash b.horizon → ⊥) → (Found Pause b.horizon → ⊥)
      → (f : Parts) → IsAdmitted b f → P f → ⊥
  no_fault omissions crashes pauses (Omit n m t) h p = omissions (m, h.1, (n, h.0, (t, omega (arith, h.4), (h, p))))
  no_fault omissions crashes pauses (Crash n t) h p = crashes (n, h.0, (t, omega (arith, h.2), (h, p)))
  no_fault omissions crashes pauses (Pause n t) h p = pauses (n, h.0, (t, omega (arith, h.2), (h, p)))

  pub some_fault : Decided Some_fault
  some_fault = elim some_omission [
    | inl omission ↦ let found = omission.2 in inl (Omit found.0 omission.0 found.2.0, found.2.2.0, found.2.2.1)
    | inr no_omission ↦ elim (some_of Crash b.horizon) [
      | inl crash ↦ inl (Crash crash.0 crash.2.0, crash.2.2.0, crash.2.2.1)
      | inr no_crash ↦ elim (some_of Pause b.horizon) [
        | inl pause ↦ inl (Pause pause.0 pause.2.0, pause.2.2.0, pause.2.2.1)
        | inr no_pause ↦ inr (λ h. no_fault no_omission no_crash no_pause h.0 h.1 h.2)
      ]
    ]
  ]

-- a list of such faults, of at most a length
abbrev SomeList : Bounds → ℕ → (List Parts → Type 0) → Type 0
SomeList b most P = (s : List Parts) × (length s ≤ most) × AllByRecursion (IsAdmitted b) s × P s

none_empty : (b : Bounds) (P : List Parts → Type 0) → (P [] → ⊥) → (s : List Parts) → length s ≤ 0 → P s → ⊥
none_empty b P never [] h p = never p
none_empty b P never (f ∷ fs) h p = omega (arith, h)

none_longer : (b : Bounds) (most : ℕ) (P : List Parts → Type 0) → (P [] → ⊥) → (((f : Parts) × IsAdmitted b f × SomeList b most (λ s. P (f ∷ s))) → ⊥)
    → (s : List Parts) → length s ≤ suc most → AllByRecursion (IsAdmitted b) s → P s → ⊥
none_longer b most P never none [] h a p = never p
none_longer b most P never none (f ∷ fs) h a p = none (f, a.0, (fs, omega (arith, h), a.1, p))

some_list : (b : Bounds) (most : ℕ) (P : List Parts → Type 0) → ((s : List Parts) → Decided (P s)) → Decided (SomeList b most P)
some_list b zero P d = elim (d []) [
  | inl empty ↦ inl ([], omega arith, tt, empty)
  | inr never ↦ inr (λ h. none_empty b P never h.0 h.1 h.3)
]
some_list b (suc most) P d = elim (d []) [
  | inl empty ↦ inl ([], omega arith, tt, empty)
  | inr never ↦ elim (some_fault b (λ f. SomeList b most (λ s. P (f ∷ s))) (λ f. some_list b most (λ s. P (f ∷ s)) (λ s. d (f ∷ s)))) [
    | inl found ↦ inl (found.0 ∷ found.2.0, omega (arith, found.2.1), (found.1, found.2.2), found.2.3)
    | inr none ↦ inr (λ h. none_longer b most P never none h.0 h.1 h.2 h.3)
  ]
]

-- an allowed list
ascending : (s : List Parts) → Decided (IsAscending s)
ascending [] = inl tt
ascending (f ∷ fs) = decide_both _ _ (decide_each (λ g. is_before f g ≡ true) (λ g. decide_is (is_before f g) true) fs) (ascending fs)

pub is_allowed : (b : Bounds) (s : List Parts) → Decided (IsAllowed b s)
is_allowed b s =
    let once : (of : ℕ → Parts → Bool) → Decided ((n : ℕ) → n < b.nodes → count_by (of n) s ≤ 1) =
    λ of. decide_each_below _ (λ n. decide_le (count_by (of n) s) 1) b.nodes in
    decide_iff _ _ (λ h. record {
      ascending = h.0;
      admitted = h.1.0;
      crash_once = h.1.1.0;
      pause_once = h.1.1.1.0;
      crashes = h.1.1.1.1.0;
      pauses = h.1.1.1.1.1.0;
      budget = h.1.1.1.1.1.1;
    })
    (λ a. (a.ascending, (a.admitted, (a.crash_once, (a.pause_once, (a.crashes, (a.pauses, a.budget)))))))
    (decide_both _ _ (ascending s) (decide_both _ _ (decide_each (IsAdmitted b) (is_admitted b) s)
    (decide_both _ _ (once is_crash_of) (decide_both _ _ (once is_pause_of) (decide_both _ _ (decide_le (count_by is_crash s) b.crashes)
    (decide_both _ _ (decide_le (count_by is_pause s) b.pauses) (decide_le (length s) b.budget)))))))

pub some_allowed : (b : Bounds) (P : List Parts → Type 0) → ((s : List Parts) → Decided (P s)) → Decided ((s : List Parts) × IsAllowed b s × P s)
some_allowed b P d = elim (some_list b b.budget (λ s. IsAllowed b s × P s) (λ s. decide_both _ _ (is_allowed b s) (d s))) [
  | inl found ↦ inl (found.0, found.3.0, found.3.1)
  | inr none ↦ inr (λ h. none (h.0, h.1.budget, h.1.admitted, (h.1, h.2)))
]
