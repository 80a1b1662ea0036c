-- Faults are gathered place by place, and stand in order.
use Rattle.std.proofs.Common.{◌≡◌, ◌≢◌, ℕ, suc, length, get_or, take, replicate, ◌+◌, ◌*◌, ◌/◌, ◌%◌, ◌^◌, ◌<◌, ◌≤◌, true, List, [], ◌∷◌, ◌++◌, refl, sym}
use Rattle.std.proofs.Common.{ap, ◌∙◌, inl, inr, arith, subst}
use Rattle.std.specs.Prelude.{◌↔◌, slice_set}
use Rattle.std.specs.Int.{bit_at, bit_not, w8}
use Rattle.std.specs.Int.RustNames.{bit_or, bit_and}
use Rattle.std.specs.List.{Contains, AllByRecursion}
use Rattle.std.specs.Cmp.{nat_cmp_is}
use Rattle.std.specs.declared.cmp.Ordering.{Ordering}
use Rattle.std.specs.declared.cmp.Ordering.TheVariants.{Less, Equal}
use Rattle.std.specs.Ordering.{nat_cmp, ordering_then, is_lt}
use Rattle.std.proofs.lemmas.Bool.{cases_lt, cases_eq}
use Rattle.std.proofs.lemmas.List.{take_more, get_or-set_same, get_or-set_other, get_or-replicate, length-replicate}
use Rattle.std.proofs.lemmas.Nat.Bits.{bit_at-zero, bit_at-lt, bit_at_and, bit_at_not, bit_at_set_same, bit_at_set_other}
use Rattle.std.proofs.Math.ListN.{get_or-eq_default}
use Rattle.std.proofs.lemmas.List.Elements.{Contains-push, Contains-push_cases, Contains-append_left}
use Rattle.lf_faults.specs.declared.fault.Parts.{Parts}
use Rattle.lf_faults.specs.declared.fault.Parts.TheVariants.{Omit, Crash, Pause}
use Rattle.lf_faults.specs.Faults.{IsFault, IsAscending, is_before, step_of, rank_of, node_of, receiver_of}
use Rattle.lf_faults.proofs.Laws.{not_itself, not_both, first-before}
use Rattle.lf_cone.specs.Places.{row_in_step, column_of, place_at, place_of, IsGathered, IsMarked, AreMarks}

-- a comparison by its first difference
first-less : (a b : ℕ) (rest : Ordering) → a < b → is_lt (ordering_then (nat_cmp a b) rest) ≡ true
first-less a b rest h = ap (λ o. is_lt (ordering_then o rest)) (sym (nat_cmp_is a b Less h))

first-same : (a b : ℕ) (rest : Ordering) → a ≡ b → is_lt rest ≡ true → is_lt (ordering_then (nat_cmp a b) rest) ≡ true
first-same a b rest e h = ap (λ o. is_lt (ordering_then o rest)) (sym (nat_cmp_is a b Equal e)) ∙ h

last-less : (a b : ℕ) → a < b → is_lt (nat_cmp a b) ≡ true
last-less a b h = ap is_lt (sym (nat_cmp_is a b Less h))

-- its place among those of its step
abbrev place_in_step : Parts → ℕ
place_in_step f = place_at (row_in_step f) (column_of f)

small-place : (f : Parts) → IsFault f → place_in_step f < 80
small-place (Omit n m t) h = omega (arith, h.0, h.1)
small-place (Crash n t) h = omega (arith, h.0)
small-place (Pause n t) h = omega (arith, h.0)

first-step : (f : Parts) → IsFault f → 1 ≤ step_of f
first-step (Omit n m t) h = h.3
first-step (Crash n t) h = h.1
first-step (Pause n t) h = h.1

-- in one step, a place before another is of a fault before the other
before-in_step : (f g : Parts) → IsFault f → IsFault g → place_in_step f < place_in_step g
    → is_lt (ordering_then (nat_cmp (rank_of f) (rank_of g)) (ordering_then (nat_cmp (node_of f) (node_of g)) (nat_cmp (receiver_of f)
    (receiver_of g)))) ≡ true
before-in_step (Omit n m t) (Omit from to step) h k l = elim (cases_lt n from) [
  | inl less ↦ first-same 0 0 _ refl (first-less n from (nat_cmp m to) less)
  | inr late ↦ first-same 0 0 _ refl (first-same n from (nat_cmp m to) (omega (arith, late, l, h.1, k.1)) (last-less m to (omega
      (arith, late, l, h.1, k.1))))
]
before-in_step (Omit n m t) (Crash node step) h k l = refl
before-in_step (Omit n m t) (Pause node step) h k l = refl
before-in_step (Crash n t) (Omit from to step) h k l = absurd (omega (arith, l, k.0, k.1))
before-in_step (Crash n t) (Crash node step) h k l = first-same 1 1 _ refl (first-less n node _ (omega (arith, l)))
before-in_step (Crash n t) (Pause node step) h k l = refl
before-in_step (Pause n t) (Omit from to step) h k l = absurd (omega (arith, l, k.0, k.1))
before-in_step (Pause n t) (Crash node step) h k l = absurd (omega (arith, l, k.0))
before-in_step (Pause n t) (Pause node step) h k l = first-same 2 2 _ refl (first-less n node _ (omega (arith, l)))

pub place-before : (f g : Parts) → IsFault f → IsFault g → place_of f < place_of g → is_before f g ≡ true
place-before f g h k l =
    let low = small-place f h in
    let high = small-place g k in
    let start = first-step f h in
    let begin = first-step g k in
    elim (cases_lt (step_of f) (step_of g)) [
      | inl less ↦ first-less (step_of f) (step_of g) _ less
      | inr late ↦ first-same (step_of f) (step_of g) _ (omega arith) (before-in_step f g h k (omega arith))
    ]

-- faults of one place are one
same-in_step : (f g : Parts) → IsFault f → IsFault g → step_of f ≡ step_of g → place_in_step f ≡ place_in_step g → f ≡ g
same-in_step (Omit n m t) (Omit from to step) h k e l =
    let e₁ : n ≡ from = omega (arith, l, h.1, k.1) in let e₂ : m ≡ to = omega (arith, l, h.1, k.1) in cc
same-in_step (Omit n m t) (Crash node step) h k e l = absurd (omega (arith, l, h.0, h.1))
same-in_step (Omit n m t) (Pause node step) h k e l = absurd (omega (arith, l, h.0, h.1))
same-in_step (Crash n t) (Omit from to step) h k e l = absurd (omega (arith, l, k.0, k.1))
same-in_step (Crash n t) (Crash node step) h k e l = let e₁ : n ≡ node = omega (arith, l) in cc
same-in_step (Crash n t) (Pause node step) h k e l = absurd (omega (arith, l, h.0))
same-in_step (Pause n t) (Omit from to step) h k e l = absurd (omega (arith, l, k.0, k.1))
same-in_step (Pause n t) (Crash node step) h k e l = absurd (omega (arith, l, k.0))
same-in_step (Pause n t) (Pause node step) h k e l = let e₁ : n ≡ node = omega (arith, l) in cc

pub place-one : (f g : Parts) → IsFault f → IsFault g → place_of f ≡ place_of g → f ≡ g
place-one f g h k e =
    let low = small-place f h in
    let high = small-place g k in
    let start = first-step f h in
    let begin = first-step g k in
    same-in_step f g h k (omega arith) (omega arith)

-- a fault before another has a place before the other's
before-place : (f g : Parts) → IsFault f → IsFault g → is_before f g ≡ true → place_of f < place_of g
before-place f g h k before = elim (cases_lt (place_of f) (place_of g)) [
  | inl less ↦ less
  | inr more ↦ elim (cases_lt (place_of g) (place_of f)) [
    | inl after ↦ absurd (not_both f g before (place-before g f k h after))
    | inr least ↦
        let same : f ≡ g = place-one f g h k (omega (arith, more, least)) in
        absurd (not_itself f (subst (λ x. is_before f x ≡ true) (sym same) before))
  ]
]

-- so faults in order, at places from one on and before another, are no more than these places
pub few-places : (fs : List Parts) (low high : ℕ) → IsAscending fs
    → ((f : Parts) → Contains fs f → IsFault f × (low ≤ place_of f) × (place_of f < high)) → low ≤ high → length fs + low ≤ high
few-places [] low high up all start = let none : length {A = Parts} [] ≡ 0 = refl in omega (arith, none, start)
few-places (f ∷ fs) low high up all start =
    let here = all f (0, omega arith, refl) in
    let rest = few-places fs (place_of f + 1) high up.1
    (λ g c.
    let there = all g (suc c.0, omega (arith, c.1), c.2) in
    let after : place_of f < place_of g = before-place f g here.0 there.0 (first-before f fs up g c) in
    (there.0, omega (arith, after), there.2))
    (omega (arith, here.2)) in
    omega (arith, rest, here.1)

-- one fault more, after all others
each-push : (P : Parts → Type 0) (fs : List Parts) (f : Parts) → AllByRecursion P fs → P f → AllByRecursion P (fs ++ f ∷ [])
each-push P [] f a p = (p, tt)
each-push P (g ∷ gs) f a p = (a.0, each-push P gs f a.1 p)

ascending-push : (fs : List Parts) (f : Parts) → IsAscending fs → AllByRecursion (λ g. is_before g f ≡ true) fs → IsAscending (fs ++ f ∷ [])
ascending-push [] f a b = (tt, tt)
ascending-push (g ∷ gs) f a b = (each-push (λ x. is_before g x ≡ true) gs f a.0 b.0, ascending-push gs f a.1 b.1)

each-from : (P : Parts → Type 0) (fs : List Parts) → ((f : Parts) → Contains fs f → P f) → AllByRecursion P fs
each-from P [] h = tt
each-from P (g ∷ gs) h = (h g (0, omega arith, refl), each-from P gs (λ f c. h f (suc c.0, omega (arith, c.1), c.2)))

module _ (P : Parts → Type 0) (faults : (f : Parts) → P f → IsFault f) where
  pub gathered-none : IsGathered P 0 []
  gathered-none = record { ascending = tt; members = λ f. (λ c. absurd (omega (arith, c.1)), λ h. absurd (omega (arith, h.1))) }

  pub gathered-push : (fs : List Parts) (k : ℕ) (f : Parts) → IsGathered P k fs → P f → place_of f ≡ k → IsGathered P (k + 1) (fs ++ f ∷ [])
  gathered-push fs k f h p e = record {
    ascending = ascending-push fs f h.ascending (each-from (λ g. is_before g f ≡ true) fs (λ g c.
        let was = (h.members g).0 c in
        place-before g f (faults g was.0) (faults f p) (omega (arith, was.1, e))));
    members = λ g. (
      λ c. elim (Contains-push_cases fs f g c) [
        | inl old ↦ let was = (h.members g).0 old in (was.0, omega (arith, was.1))
        | inr new ↦ (subst P new p, omega (arith, ap place_of new, e))
      ],
      λ q. elim (cases_lt (place_of g) k) [
        | inl early ↦ Contains-append_left fs (f ∷ []) g ((h.members g).1 (q.0, early))
        | inr late ↦
            let is : f ≡ g = place-one f g (faults f p) (faults g q.0) (omega (arith, late, q.1, e)) in
            subst (Contains (fs ++ f ∷ [])) is (Contains-push fs f)
      ],
    );
  }

  -- no fault stands at these places
  pub gathered-leap : (fs : List Parts) (k l : ℕ) → k ≤ l → IsGathered P k fs → ((f : Parts) → P f → k ≤ place_of f → place_of f < l → ⊥)
      → IsGathered P l fs
  gathered-leap fs k l less h none = record {
    ascending = h.ascending;
    members = λ g. (
      λ c. let was = (h.members g).0 c in (was.0, omega (arith, was.1, less)),
      λ q. elim (cases_lt (place_of g) k) [
        | inl early ↦ (h.members g).1 (q.0, early)
        | inr late ↦ absurd (none g q.0 late q.1)
      ],
    );
  }

-- a table of bits with one bit set
abbrev pub with_mark : List ℕ → ℕ → List ℕ
with_mark rows k = slice_set rows (k / 8) (bit_or (get_or rows (k / 8) 0) (1 * 2 ^ (k % 8) % 2 ^ 8))

mark-same : (rows : List ℕ) (k : ℕ) → k / 8 < length rows → IsMarked (with_mark rows k) k
mark-same rows k inside =
    let column : k % 8 < 8 = omega arith in
    let row = get_or rows (k / 8) 0 in
    ap (λ x. bit_at x (k % 8)) (get_or-set_same rows (k / 8) (bit_or row (1 * 2 ^ (k % 8) % 2 ^ 8)) 0 inside)
    ∙ bit_at_set_same w8 row (k % 8) column

mark-other : (rows : List ℕ) (k j : ℕ) → k / 8 < length rows → j ≢ k
    → bit_at (get_or (with_mark rows k) (j / 8) 0) (j % 8) ≡ bit_at (get_or rows (j / 8) 0) (j % 8)
mark-other rows k j inside apart =
    let column : k % 8 < 8 = omega arith in
    let row = get_or rows (k / 8) 0 in
    let set = bit_or row (1 * 2 ^ (k % 8) % 2 ^ 8) in
    elim (cases_eq (j / 8) (k / 8)) [
      | inl same ↦
          ap (λ x. bit_at (get_or (with_mark rows k) x 0) (j % 8)) same
          ∙ ap (λ x. bit_at x (j % 8)) (get_or-set_same rows (k / 8) set 0 inside)
          ∙ bit_at_set_other w8 row (k % 8) column (j % 8) (λ e. apart (omega (arith, same, e)))
          ∙ ap (λ x. bit_at (get_or rows x 0) (j % 8)) (sym same)
      | inr other ↦ ap (λ x. bit_at x (j % 8)) (get_or-set_other rows (k / 8) (j / 8) set 0 other)
    ]

-- the marks of faults, one after another
pub marks-none : (n : ℕ) → AreMarks [] (replicate n 0)
marks-none n f is = (
  λ h.
      let row : ◌≡◌ {A = ℕ} (get_or (replicate n 0) (place_of f / 8) 0) 0 = unset n (place_of f / 8) in
      let bit : bit_at (get_or (replicate n 0) (place_of f / 8) 0) (place_of f % 8) ≡ 0 =
      ap (λ x. bit_at x (place_of f % 8)) row ∙ bit_at-zero (place_of f % 8) in
      let wrong : ◌≡◌ {A = ℕ} 1 0 = sym h ∙ bit in
      absurd (omega (arith, wrong)),
  λ c. absurd (omega (arith, c.1)),
)
  where
    unset : (n k : ℕ) → ◌≡◌ {A = ℕ} (get_or (replicate n 0) k 0) 0
    unset n k = elim (cases_lt k n) [
      | inl there ↦ get_or-replicate n k 0 0 there
      | inr past ↦ get_or-eq_default (replicate n 0) 0 {n = k} (omega (arith, past, length-replicate {A = ℕ} n 0))
    ]

pub marks-more : (xs : List Parts) (i : ℕ) (rows : List ℕ) (g : Parts) → i < length xs → g ≡ get_or xs i g → IsFault g → place_of g / 8 < length rows
    → AreMarks (take i xs) rows → AreMarks (take (i + 1) xs) (with_mark rows (place_of g))
marks-more xs i rows g inside at in_range below h f is =
    let whole : take (i + 1) xs ≡ take i xs ++ g ∷ [] = take_more xs i g inside ∙ ap (λ x. take i xs ++ x ∷ []) (sym at) in
    elim (cases_eq (place_of f) (place_of g)) [
      | inl same ↦
          let one : g ≡ f = place-one g f in_range is (sym same) in (
            λ _. rw whole (subst (Contains (take i xs ++ g ∷ [])) one (Contains-push (take i xs) g)),
            λ _. subst (IsMarked (with_mark rows (place_of g))) (sym same) (mark-same rows (place_of g) below),
          )
      | inr other ↦
          let kept = mark-other rows (place_of g) (place_of f) below other in (
            λ e. rw whole (Contains-append_left (take i xs) (g ∷ []) f ((h f is).0 (sym kept ∙ e))),
            λ c. kept ∙ (h f is).1 (elim (Contains-push_cases (take i xs) g f (rw whole at c)) [
              | inl old ↦ old
              | inr new ↦ absurd (other (ap place_of (sym new)))
            ]),
          )
    ]

-- what the mark at a fault's place says
pub marked-in : (faults : List Parts) (rows : List ℕ) → AreMarks faults rows → (f : Parts) → IsFault f → (k : ℕ) → k ≡ place_of f → IsMarked rows k
    → Contains faults f
marked-in faults rows marks f is k e h = (marks f is).0 (subst (IsMarked rows) e h)

pub in-marked : (faults : List Parts) (rows : List ℕ) → AreMarks faults rows → (f : Parts) → IsFault f → (k : ℕ) → k ≡ place_of f → Contains faults f
    → IsMarked rows k
in-marked faults rows marks f is k e c = subst (IsMarked rows) (sym e) ((marks f is).1 c)

-- a bit of a row is a place's
pub bit-place : (rows : List ℕ) (r c : ℕ) → c < 8
    → bit_at (get_or rows (place_at r c / 8) 0) (place_at r c % 8) ≡ bit_at (get_or rows r 0) c
bit-place rows r c column =
    let row : (r * 8 + c) / 8 ≡ r = omega arith in
    let at : (r * 8 + c) % 8 ≡ c = omega arith in
    rw (row, at) refl

-- what is sent and not marked
pub open-bit : (rows : List ℕ) (sent r c : ℕ) → c < 8 → get_or rows r 0 < 256
    → (bit_at (bit_and sent (bit_not w8 (get_or rows r 0))) c ≡ 1) ↔ ((bit_at sent c ≡ 1) × ¬ IsMarked rows (place_at r c))
open-bit rows sent r c column byte =
    let both = bit_at_and sent (bit_not w8 (get_or rows r 0)) c in
    let other = bit_at_not w8 (get_or rows r 0) c byte column in
    let place = bit-place rows r c column in
    let low = bit_at-lt sent c in
    let low' = bit_at-lt (get_or rows r 0) c in (
      λ h. (omega (arith, h, both, other, low, low'), λ m. omega (arith, h, both, other, low, low', place, m)),
      λ h. elim (cases_eq (bit_at (get_or rows r 0) c) 1) [
        | inl is ↦ absurd (h.1 (place ∙ is))
        | inr not ↦ omega (arith, h.0, both, other, low', not)
      ],
    )
