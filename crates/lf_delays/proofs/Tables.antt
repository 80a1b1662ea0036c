-- Tables of arrivals, one step changed.
use Rattle.std.proofs.Common.{◌≡◌, ℕ, ◌+◌, ◌/◌, ◌%◌, ◌<◌, ◌≤◌, true, false, ◌&&◌, nat_le, nat_eq, List, [], ◌∷◌, ◌++◌, length, get_or, take, slice_set}
use Rattle.std.proofs.Common.{refl, sym, ap, ◌∙◌, subst, arith, inl, inr, eq-eqb}
use Rattle.std.specs.Prelude.{if◌then◌else◌}
use Rattle.std.specs.List.{AllByRecursion}
use Rattle.std.proofs.lemmas.Bool.{and_from, and_parts, cases_Bool, cases_eq, eqb-true, false_from_ne_true}
use Rattle.std.proofs.lemmas.List.{ext_get_or, get_or-set_same, get_or-set_other, length-set, take_more}
use Rattle.std.proofs.lemmas.List.FromFn.{get_or-map-range_with_len, length-map-range_with_len}
use Rattle.lf_faults.specs.declared.text.Slot.{Slot}
use Rattle.lf_latency.specs.declared.arrivals.Arrivals.{Arrivals}
use Rattle.lf_latency.specs.declared.links.Links.{Links}
use Rattle.lf_latency.specs.declared.network.Timing.{Timing}
use Rattle.lf_latency.specs.Arrivals.{IsSlot, IsArrivals, IsAssignment, IsInWindow, earliest, place_of, with_arrival}
use Rattle.lf_latency.specs.Links.{is_pair}
use Rattle.lf_latency.specs.Table.{arrivals_by, entry_of, table_by}
use Rattle.lf_latency.proofs.Laws.{earliest_is, table_at, table_is}
use Rattle.lf_delays.specs.declared.delay.Delay.{Delay}
use Rattle.lf_delays.specs.Delays.{AreDelays, IsDelay, IsNew, delayed, is_of, named_or}
use Rattle.lf_delays.proofs.Lists.{each-at, new_before}

-- slots with the same numbers are one
pub slot_same : (s r : Slot) → s.from ≡ r.from → s.to ≡ r.to → s.step ≡ r.step → s ≡ r
slot_same s r from to step =
    ap (λ k. record { from = k; to = s.to; step = s.step }) from
    ∙ ap (λ k. record { from = r.from; to = k; step = s.step }) to
    ∙ ap (λ k. record { from = r.from; to = r.to; step = k }) step

-- what stands at a place, by the assignment
entry_there : (timing : Timing) (a : ℕ → ℕ → ℕ → ℕ) (j : ℕ) → j < 3072
    → get_or (table_by timing a) j 0 ≡ entry_of timing a (j / 384) (j / 48 % 8) (j % 48 + 1)
unfolding table_by
entry_there timing a j inside =
    get_or-map-range_with_len (λ k. entry_of timing a (k / 384) (k / 48 % 8) (k % 48 + 1)) 0 3072 j j 0 inside (omega arith)

table_long : (timing : Timing) (a : ℕ → ℕ → ℕ → ℕ) → length (table_by timing a) ≡ 3072
unfolding table_by
table_long timing a = length-map-range_with_len (λ k. entry_of timing a (k / 384) (k / 48 % 8) (k % 48 + 1)) 0 3072

entry_same : (timing : Timing) (a b : ℕ → ℕ → ℕ → ℕ) (x y z : ℕ) → b x y z ≡ a x y z → entry_of timing a x y z ≡ entry_of timing b x y z
entry_same timing a b x y z same = ap (λ k. if is_pair timing.nodes x y && nat_le z timing.horizon then k else 0) (sym same)

-- the table of an assignment with the step of one slot changed is that of the assignment so changed
module _ (timing : Timing) (eight : timing.nodes ≤ 8) (short : timing.horizon ≤ 48) (a b : ℕ → ℕ → ℕ → ℕ) (n m t u : ℕ) (slot : IsSlot timing n m t)
    (there : b n m t ≡ u) (elsewhere : (x y z : ℕ) → ((x ≡ n) × (y ≡ m) × (z ≡ t) → ⊥) → b x y z ≡ a x y z) where
  place_inside : place_of n m t < 3072
  place_inside =
      let sender = slot.pair.sender in
      let receiver = slot.pair.receiver in
      let first = slot.first in
      let last = slot.last in
      omega (arith, eight, short, sender, receiver, first, last)

  place_at : (j : ℕ) → j < 3072 → (j / 384 ≡ n) × (j / 48 % 8 ≡ m) × (j % 48 + 1 ≡ t) → j ≡ place_of n m t
  place_at j inside h = let x = h.0 in let y = h.1 in let z = h.2 in omega (arith, inside, x, y, z)

  at_place : (j : ℕ) → j < 3072 → get_or (slice_set (table_by timing a) (place_of n m t) u) j 0 ≡ get_or (table_by timing b) j 0
  at_place j inside = elim (cases_eq j (place_of n m t)) [
    | inl here ↦
        ap (λ k. get_or (slice_set (table_by timing a) (place_of n m t) u) k 0) here
        ∙ get_or-set_same (table_by timing a) (place_of n m t) u 0 (omega (arith, place_inside, table_long timing a))
        ∙ sym there ∙ sym (table_at timing b n m t eight short slot) ∙ ap (λ k. get_or (table_by timing b) k 0) (sym here)
    | inr other ↦
        get_or-set_other (table_by timing a) (place_of n m t) j u 0 other ∙ entry_there timing a j inside
        ∙ entry_same timing a b (j / 384) (j / 48 % 8) (j % 48 + 1) (elsewhere (j / 384) (j / 48 % 8) (j % 48 + 1) (λ e. other (place_at j inside e)))
        ∙ sym (entry_there timing b j inside)
  ]

  put_by : with_arrival (arrivals_by timing a) n m t u ≡ arrivals_by timing b
  put_by =
      let long : length (slice_set (table_by timing a) (place_of n m t) u) ≡ 3072 = length-set (table_by timing a) (place_of n m t) u ∙ table_long timing a in
      let same : slice_set (table_by timing a) (place_of n m t) u ≡ table_by timing b =
      ext_get_or 0 (slice_set (table_by timing a) (place_of n m t) u) (table_by timing b) (long ∙ sym (table_long timing b))
      (λ j inside. at_place j (omega (arith, inside, long))) in
      ap (λ steps. record { steps = steps }) same

-- a delay is of its own slot,
is_of-own : (d : Delay) → is_of d.slot.from d.slot.to d.slot.step d ≡ true
is_of-own d =
    and_from (nat_eq d.slot.from d.slot.from) (nat_eq d.slot.to d.slot.to && nat_eq d.slot.step d.slot.step) (eq-eqb d.slot.from d.slot.from refl)
    (and_from (nat_eq d.slot.to d.slot.to) (nat_eq d.slot.step d.slot.step) (eq-eqb d.slot.to d.slot.to refl) (eq-eqb d.slot.step d.slot.step refl))

-- and of no other
pub is_of-is : (n m t : ℕ) (d : Delay) → is_of n m t d ≡ true → (n ≡ d.slot.from) × (m ≡ d.slot.to) × (t ≡ d.slot.step)
is_of-is n m t d e =
    let outer = and_parts (nat_eq n d.slot.from) (nat_eq m d.slot.to && nat_eq t d.slot.step) e in
    let inner = and_parts (nat_eq m d.slot.to) (nat_eq t d.slot.step) outer.1 in
    (eqb-true n d.slot.from outer.0, eqb-true m d.slot.to inner.0, eqb-true t d.slot.step inner.1)

pub is_of-at : (n m t : ℕ) (d : Delay) → n ≡ d.slot.from → m ≡ d.slot.to → t ≡ d.slot.step → is_of n m t d ≡ true
is_of-at n m t d from to step = rw (from, to, step) (is_of-own d)

module _ (others : ℕ → ℕ → ℕ → ℕ) where
  -- one more at the end names its step,
  named-there : (ds : List Delay) (d : Delay) → IsNew ds d → named_or others (ds ++ d ∷ []) d.slot.from d.slot.to d.slot.step ≡ d.at
  named-there [] d new = ap (λ b. if b then d.at else others d.slot.from d.slot.to d.slot.step) (is_of-own d)
  named-there (x ∷ xs) d new =
      let other : is_of d.slot.from d.slot.to d.slot.step x ≡ false = false_from_ne_true (is_of d.slot.from d.slot.to d.slot.step x) (λ e.
      let same = is_of-is d.slot.from d.slot.to d.slot.step x e in
      new.0 (slot_same x.slot d.slot (sym same.0) (sym same.1) (sym same.2))) in
      ap (λ b. if b then x.at else named_or others (xs ++ d ∷ []) d.slot.from d.slot.to d.slot.step) other ∙ named-there xs d new.1

  -- and leaves the others
  named-elsewhere : (ds : List Delay) (d : Delay) (n m t : ℕ) → ((n ≡ d.slot.from) × (m ≡ d.slot.to) × (t ≡ d.slot.step) → ⊥)
      → named_or others (ds ++ d ∷ []) n m t ≡ named_or others ds n m t
  named-elsewhere [] d n m t apart =
      ap (λ b. if b then d.at else others n m t) (false_from_ne_true (is_of n m t d) (λ e. apart (is_of-is n m t d e)))
  named-elsewhere (x ∷ xs) d n m t apart = ap (λ k. if is_of n m t x then x.at else k) (named-elsewhere xs d n m t apart)

-- so one delay more is put into the table
pub delayed-push : (timing : Timing) (ds : List Delay) (d : Delay) → timing.nodes ≤ 8 → timing.horizon ≤ 48 → IsDelay timing d → IsNew ds d
    → with_arrival (delayed timing ds) d.slot.from d.slot.to d.slot.step d.at ≡ delayed timing (ds ++ d ∷ [])
delayed-push timing ds d eight short is new =
    put_by timing eight short (named_or (earliest timing.links) ds) (named_or (earliest timing.links) (ds ++ d ∷ [])) d.slot.from d.slot.to d.slot.step d.at
    is.slot (named-there (earliest timing.links) ds d new) (λ x y z apart. named-elsewhere (earliest timing.links) ds d x y z apart)

-- the next one
pub put_more : (timing : Timing) (ds : List Delay) (i : ℕ) (z : Delay) (arrivals new : Arrivals) → timing.nodes ≤ 8 → timing.horizon ≤ 48
    → AreDelays timing ds → i < length ds → arrivals ≡ delayed timing (take i ds)
    → new ≡ with_arrival arrivals (get_or ds i z).slot.from (get_or ds i z).slot.to (get_or ds i z).slot.step (get_or ds i z).at
    → new ≡ delayed timing (take (i + 1) ds)
put_more timing ds i z arrivals new eight short are inside before next =
    let d = get_or ds i z in
    next ∙ ap (λ a. with_arrival a d.slot.from d.slot.to d.slot.step d.at) before
    ∙ delayed-push timing (take i ds) d eight short (each-at (IsDelay timing) ds i z are.each inside) (new_before ds i z are.apart inside)
    ∙ ap (delayed timing) (sym (take_more ds i z inside))

window_along : (links : Links) (n m t x y z u : ℕ) → n ≡ x → m ≡ y → t ≡ z → IsInWindow links x y z u → IsInWindow links n m t u
window_along links n m t x y z u from to step window = rw (from, to, step) window

-- each step that delays name is in its window
pub named_assigned : (timing : Timing) (ds : List Delay) → AllByRecursion (IsDelay timing) ds → IsAssignment timing (named_or (earliest timing.links) ds)
named_assigned timing [] each n m t slot = earliest_is timing n m t slot
named_assigned timing (x ∷ xs) each n m t slot = elim (cases_Bool (is_of n m t x)) [
  | inl here ↦
      let same = is_of-is n m t x here in
      subst (IsInWindow timing.links n m t) (sym (ap (λ b. if b then x.at else named_or (earliest timing.links) xs n m t) here))
      (window_along timing.links n m t x.slot.from x.slot.to x.slot.step x.at same.0 same.1 same.2 each.0.window)
  | inr other ↦
      subst (IsInWindow timing.links n m t) (sym (ap (λ b. if b then x.at else named_or (earliest timing.links) xs n m t) other))
      (named_assigned timing xs each.1 n m t slot)
]

pub delayed_is : (timing : Timing) (ds : List Delay) → timing.nodes ≤ 8 → timing.horizon ≤ 48 → AreDelays timing ds → IsArrivals timing (delayed timing ds)
delayed_is timing ds eight short are = table_is timing (named_or (earliest timing.links) ds) eight short (named_assigned timing ds are.each)
