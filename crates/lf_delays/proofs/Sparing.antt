-- Delays of which none can be spared are the late notes of the run that they make.
use Rattle.std.proofs.Common.{◌≡◌, ◌≢◌, ℕ, ◌<◌, ◌≤◌, true, false, List, [], ◌∷◌, ◌++◌, refl, sym, ap, ◌∙◌, subst, arith, inl, inr}
use Rattle.std.specs.Prelude.{◌⊎◌}
use Rattle.std.specs.List.{Contains}
use Rattle.std.proofs.lemmas.Bool.{both_ways, cases_Bool, cases_lt}
use Rattle.lf_delays.specs.Answers.{IsOn}
use Rattle.lf_delays.specs.Windows.{under}
use Rattle.lf_delays.proofs.ArrivalLemmas.{reaches_agree, slots_reach}
use Rattle.lf_faults.specs.declared.fault.Parts.{Parts}
use Rattle.lf_latency.specs.declared.network.Timing.{Timing}
use Rattle.lf_latency.specs.Arrivals.{IsSlot, arrival_in, earliest}
use Rattle.lf_latency.proofs.Laws.{table_at}
use Rattle.lf_list.proofs.Laws.{Contains-first, Contains-more, cases_in, each-from, each-in, none-in}
use Rattle.lf_outcome.specs.declared.formula.Formula.{Formula}
use Rattle.lf_sim.specs.Runs.{World}
use Rattle.lf_delays.specs.declared.delay.Delay.{Delay}
use Rattle.lf_delays.specs.Delays.{AreApart, AreDelays, IsDelay, delayed, is_of, named_or}
use Rattle.lf_delays.specs.Tight.{AreNeeded, IsTight, reaches_by}
use Rattle.lf_delays.specs.Told.{told}
use Rattle.lf_delays.proofs.Late.{append-left, append-right, cases_append, late_in, told-late, told_apart}
use Rattle.lf_delays.proofs.Replaying.{named-member, named-none}
use Rattle.lf_delays.proofs.Tables.{is_of-at, is_of-is, slot_same}

-- a list around one of its members
record IsAround {X : Type 0} (xs : List X) (x : X) : Type 0 where
  pub before : List X
  pub behind : List X
  pub is : xs ≡ before ++ x ∷ behind

around : {X : Type 0} (xs : List X) (x : X) → Contains xs x → IsAround xs x
around [] x h = absurd (none-in x h)
around (y ∷ xs) x h = elim (cases_in y xs x h) [
  | inl same ↦ record { before = []; behind = xs; is = ap (λ z. z ∷ xs) same }
  | inr later ↦ let more = around xs x later in record { before = y ∷ more.before; behind = more.behind; is = ap (λ zs. y ∷ zs) more.is }
]

member : {X : Type 0} (xs ys : List X) (x : X) → Contains (xs ++ x ∷ ys) x
member xs ys x = append-right xs (x ∷ ys) x (Contains-first x ys)

-- what is left without one
left_in : {X : Type 0} (xs ys : List X) (y x : X) → Contains (xs ++ ys) x → Contains (xs ++ y ∷ ys) x
left_in xs ys y x h = elim (cases_append xs ys x h) [
  | inl early ↦ append-left xs (y ∷ ys) x early
  | inr late ↦ append-right xs (y ∷ ys) x (Contains-more y ys x late)
]

in_left : (xs ys : List Delay) (d x : Delay) → x.slot ≢ d.slot → Contains (xs ++ d ∷ ys) x → Contains (xs ++ ys) x
in_left xs ys d x other h = elim (cases_append xs (d ∷ ys) x h) [
  | inl early ↦ append-left xs ys x early
  | inr late ↦ elim (cases_in d ys x late) [
    | inl same ↦ absurd (other (ap (λ y. y.slot) (sym same)))
    | inr later ↦ append-right xs ys x later
  ]
]

apart_left : (xs ys : List Delay) (d : Delay) → AreApart (xs ++ d ∷ ys) → AreApart (xs ++ ys)
apart_left [] ys d apart = apart.1
apart_left (x ∷ xs) ys d apart = (
  each-from (λ e. e.slot ≢ x.slot) (xs ++ ys) (λ e h. each-in (λ e. e.slot ≢ x.slot) (xs ++ d ∷ ys) apart.0 e (left_in xs ys d e h)),
  apart_left xs ys d apart.1,
)

-- it is of other slots
left_other : (xs ys : List Delay) (d x : Delay) → AreApart (xs ++ d ∷ ys) → Contains (xs ++ ys) x → x.slot ≢ d.slot
left_other [] ys d x apart h = each-in (λ e. e.slot ≢ d.slot) ys apart.0 x h
left_other (y ∷ xs) ys d x apart h = elim (cases_in y (xs ++ ys) x h) [
  | inl same ↦ (λ e. each-in (λ k. k.slot ≢ y.slot) (xs ++ d ∷ ys) apart.0 d (member xs ys d) (sym e ∙ ap (λ k. k.slot) (sym same)))
  | inr later ↦ left_other xs ys d x apart.1 later
]

-- one of these is of a slot, or none is
abbrev IsFor : List Delay → ℕ → ℕ → ℕ → Type 0
IsFor ds n m t = (d : Delay) × Contains ds d × (is_of n m t d ≡ true)

find : (ds : List Delay) (n m t : ℕ) → IsFor ds n m t ⊎ ((d : Delay) → Contains ds d → is_of n m t d ≡ true → ⊥)
find [] n m t = inr (λ d h e. none-in d h)
find (x ∷ xs) n m t = elim (cases_Bool (is_of n m t x)) [
  | inl here ↦ inl (x, Contains-first x xs, here)
  | inr other ↦ elim (find xs n m t) [
    | inl found ↦ inl (found.0, Contains-more x xs found.0 found.1, found.2)
    | inr none ↦ inr (λ d h e. elim (cases_in x xs d h) [
      | inl same ↦ both_ways (is_of n m t x) other (ap (is_of n m t) same ∙ e)
      | inr later ↦ none d later e
    ])
  ]
]

module _ (others : ℕ → ℕ → ℕ → ℕ) where
  -- what one of a slot names
  named_for : (ds : List Delay) (d : Delay) (n m t : ℕ) → AreApart ds → Contains ds d → is_of n m t d ≡ true → named_or others ds n m t ≡ d.at
  named_for ds d n m t apart h e =
      let same = is_of-is n m t d e in
      let there : named_or others ds n m t ≡ named_or others ds d.slot.from d.slot.to d.slot.step = rw (same.0, same.1, same.2) refl in
      there ∙ named-member others ds d apart h

  -- lists of the same members name the same steps
  named_same : (xs ys : List Delay) → AreApart xs → AreApart ys → ((d : Delay) → Contains xs d → Contains ys d)
      → ((d : Delay) → Contains ys d → Contains xs d) → (n m t : ℕ) → named_or others xs n m t ≡ named_or others ys n m t
  named_same xs ys one two to back n m t = elim (find xs n m t) [
    | inl found ↦ named_for xs found.0 n m t one found.1 found.2 ∙ sym (named_for ys found.0 n m t two (to found.0 found.1) found.2)
    | inr none ↦ named-none others xs n m t none ∙ sym (named-none others ys n m t (λ d h. none d (back d h)))
  ]

module _ {State Note Fact : Type 0} (timing : Timing) (w : World State Note Fact) (faults : List Parts) (formula : Formula Fact)
    (on : IsOn timing w) where
  abbrev base : ℕ → ℕ → ℕ → ℕ
  base = earliest timing.links

  abbrev by : List Delay → World State Note Fact
  by ds = under w (arrival_in (delayed timing ds))

  on_by : (ds : List Delay) → IsOn timing (by ds)
  on_by ds = record { nodes = on.nodes; horizon = on.horizon; eight = on.eight; short = on.short }

  slot_in : (n m t : ℕ) → n < w.rules.nodes → m < w.rules.nodes → n ≢ m → 1 ≤ t → t ≤ w.horizon → IsSlot timing n m t
  slot_in n m t from to apart first last =
      let nodes = on.nodes in
      let horizon = on.horizon in
      record {
        pair = record { sender = omega (arith, from, nodes); receiver = omega (arith, to, nodes); apart = apart };
        first = first;
        last = omega (arith, last, horizon);
      }

  arrives : (ds : List Delay) (n m t : ℕ) → IsSlot timing n m t → arrival_in (delayed timing ds) n m t ≡ named_or base ds n m t
  arrives ds n m t slot = table_at timing (named_or base ds) n m t on.eight on.short slot

  -- lists of the same members make one run
  same_reach : (xs ys : List Delay) → AreApart xs → AreApart ys → ((d : Delay) → Contains xs d → Contains ys d)
      → ((d : Delay) → Contains ys d → Contains xs d)
      → reaches_by timing w faults formula xs ≡ reaches_by timing w faults formula ys
  same_reach xs ys one two to back =
      slots_reach timing w on (arrival_in (delayed timing xs)) (arrival_in (delayed timing ys))
      (λ n m t slot. arrives xs n m t slot ∙ named_same base xs ys one two to back n m t ∙ sym (arrives ys n m t slot)) faults formula

  module _ (ds : List Delay) (are : AreDelays timing ds) where
    abbrev late : List Delay
    late = told (by ds) faults timing.links

    -- a late note is named,
    late-named : (d : Delay) → Contains late d → Contains ds d
    late-named d h =
        let is = told-late (by ds) faults timing.links d h in
        let slot = slot_in d.slot.from d.slot.to d.slot.step is.sender is.receiver is.apart is.first is.last in
        let at : d.at ≡ named_or base ds d.slot.from d.slot.to d.slot.step = is.arrives ∙ arrives ds d.slot.from d.slot.to d.slot.step slot in
        elim (find ds d.slot.from d.slot.to d.slot.step) [
          | inl found ↦
              let of = is_of-is d.slot.from d.slot.to d.slot.step found.0 found.2 in
              let slots : d.slot ≡ found.0.slot = slot_same d.slot found.0.slot of.0 of.1 of.2 in
              let steps : d.at ≡ found.0.at = at ∙ named_for base ds found.0 d.slot.from d.slot.to d.slot.step are.apart found.1 found.2 in
              let same : d ≡ found.0 = ap (λ k. record { slot = k; at = d.at }) slots ∙ ap (λ k. record { slot = found.0.slot; at = k }) steps in
              subst (Contains ds) (sym same) found.1
          | inr none ↦
              let plain : d.at ≡ base d.slot.from d.slot.to d.slot.step = at ∙ named-none base ds d.slot.from d.slot.to d.slot.step none in
              let low = is.late in
              absurd (omega (arith, plain, low))
        ]

    module _ (before behind : List Delay) (d : Delay) (split : ds ≡ before ++ d ∷ behind) where
      abbrev rest : List Delay
      rest = before ++ behind

      there : Contains ds d
      there = subst (λ xs. Contains xs d) (sym split) (member before behind d)

      parted : AreApart (before ++ d ∷ behind)
      parted = subst AreApart split are.apart

      left_same : (n m t : ℕ) → is_of n m t d ≡ false → named_or base ds n m t ≡ named_or base rest n m t
      left_same n m t other = elim (find ds n m t) [
        | inl found ↦
            let whole : Contains (before ++ d ∷ behind) found.0 = subst (λ xs. Contains xs found.0) split found.1 in
            let apart : found.0.slot ≢ d.slot = λ e.
            let of = is_of-is n m t found.0 found.2 in
            both_ways (is_of n m t d) other
            (is_of-at n m t d (of.0 ∙ ap (λ s. s.from) e) (of.1 ∙ ap (λ s. s.to) e) (of.2 ∙ ap (λ s. s.step) e)) in
            named_for base ds found.0 n m t are.apart found.1 found.2
            ∙ sym (named_for base rest found.0 n m t (apart_left before behind d parted) (in_left before behind d found.0 apart whole) found.2)
        | inr none ↦
            named-none base ds n m t none
            ∙ sym (named-none base rest n m t (λ x h. none x (subst (λ xs. Contains xs x) (sym split) (left_in before behind d x h))))
      ]

      rest_there : named_or base rest d.slot.from d.slot.to d.slot.step ≡ base d.slot.from d.slot.to d.slot.step
      rest_there = named-none base rest d.slot.from d.slot.to d.slot.step (λ x h e.
          let of = is_of-is d.slot.from d.slot.to d.slot.step x e in
          left_other before behind d x parted h (slot_same x.slot d.slot (sym of.0) (sym of.1) (sym of.2)))

      -- one whose note isn't late can be spared
      spared : (Contains late d → ⊥) → reaches_by timing w faults formula ds ≡ reaches_by timing w faults formula rest
      spared never =
          reaches_agree (by ds) faults (arrival_in (delayed timing rest))
          (λ n m t u note from to apart first last early low up sends kept.
          let slot = slot_in n m t from to apart first last in
          let same : named_or base ds n m t ≡ named_or base rest n m t = elim (cases_Bool (is_of n m t d)) [
            | inr other ↦ left_same n m t other
            | inl here ↦
                let of = is_of-is n m t d here in
                let at : named_or base ds n m t ≡ d.at = named_for base ds d n m t are.apart there here in
                let comes : arrival_in (delayed timing ds) n m t ≡ d.at = arrives ds n m t slot ∙ at in
                elim (cases_lt (base n m t) (arrival_in (delayed timing ds) n m t)) [
                  | inl more ↦
                      let told_so = late_in (by ds) faults timing.links t n m note first last from to apart kept sends more in
                      let slots : record { from = n; to = m; step = t } ≡ d.slot = slot_same (record { from = n; to = m; step = t }) d.slot of.0 of.1 of.2 in
                      let is : record { slot = record { from = n; to = m; step = t }; at = arrival_in (delayed timing ds) n m t } ≡ d =
                      ap (λ k. record { slot = k; at = arrival_in (delayed timing ds) n m t }) slots
                      ∙ ap (λ k. record { slot = d.slot; at = k }) comes in
                      absurd (never (subst (Contains late) is told_so))
                  | inr enough ↦
                      let window = (each-in (IsDelay timing) ds are.each d there).window in
                      let low_end = window.0 in
                      let back : base d.slot.from d.slot.to d.slot.step ≡ base n m t = rw (of.0, of.1, of.2) refl in
                      let plain : d.at ≡ base n m t = omega (arith, low_end, back, enough, comes) in
                      let rested : named_or base rest n m t ≡ base n m t =
                      subst (λ k. named_or base rest k m t ≡ base k m t) (sym of.0)
                      (subst (λ k. named_or base rest d.slot.from k t ≡ base d.slot.from k t) (sym of.1)
                      (subst (λ k. named_or base rest d.slot.from d.slot.to k ≡ base d.slot.from d.slot.to k) (sym of.2) rest_there)) in
                      at ∙ plain ∙ sym rested
                ]
          ] in
          let is : arrival_in (delayed timing ds) n m t ≡ arrival_in (delayed timing rest) n m t =
          arrives ds n m t slot ∙ same ∙ sym (arrives rest n m t slot) in
          ((λ e. sym is ∙ e), (λ e. is ∙ e)))
          formula

    module _ (misses : reaches_by timing w faults formula ds ≡ false) (needed : AreNeeded timing w faults formula ds) where
      in_or_out : (d : Delay) → Contains ds d → Contains late d ⊎ (Contains late d → ⊥)
      in_or_out d h = elim (find late d.slot.from d.slot.to d.slot.step) [
        | inl found ↦ inl (
            let named : Contains ds found.0 = late-named found.0 found.1 in
            let of = is_of-is d.slot.from d.slot.to d.slot.step found.0 found.2 in
            let slots : d.slot ≡ found.0.slot = slot_same d.slot found.0.slot of.0 of.1 of.2 in
            let steps : d.at ≡ found.0.at =
            sym (named-member base ds d are.apart h) ∙ named_for base ds found.0 d.slot.from d.slot.to d.slot.step are.apart named found.2 in
            let same : d ≡ found.0 = ap (λ k. record { slot = k; at = d.at }) slots ∙ ap (λ k. record { slot = found.0.slot; at = k }) steps in
            subst (Contains late) (sym same) found.1)
        | inr none ↦ inr (λ k. none d k (is_of-at d.slot.from d.slot.to d.slot.step d refl refl refl))
      ]

      -- and what is named is late
      named-late : (d : Delay) → Contains ds d → Contains late d
      named-late d h = elim (in_or_out d h) [
        | inl here ↦ here
        | inr never ↦
            let at = around ds d h in
            absurd (both_ways (reaches_by timing w faults formula ds) misses
            (spared at.before at.behind d at.is never ∙ needed at.before at.behind d at.is))
      ]

      pub tight_by : IsTight timing (by ds) faults formula
      tight_by before behind d split =
          let parts : AreApart (before ++ d ∷ behind) = subst AreApart split (told_apart (by ds) faults timing.links) in
          let told_so : Contains late d = subst (λ xs. Contains xs d) (sym split) (member before behind d) in
          let at = around ds d (late-named d told_so) in
          let whole : AreApart (at.before ++ d ∷ at.behind) = subst AreApart at.is are.apart in
          same_reach (before ++ behind) (at.before ++ at.behind) (apart_left before behind d parts) (apart_left at.before at.behind d whole)
          (λ x h.
          in_left at.before at.behind d x (left_other before behind d x parts h) (subst (λ xs. Contains xs x) at.is
          (late-named x (subst (λ xs. Contains xs x) (sym split) (left_in before behind d x h)))))
          (λ x h.
          in_left before behind d x (left_other at.before at.behind d x whole h) (subst (λ xs. Contains xs x) split
          (named-late x (subst (λ xs. Contains xs x) (sym at.is) (left_in at.before at.behind d x h)))))
          ∙ needed at.before at.behind d at.is

      pub late_are : (d : Delay) → (Contains late d → Contains ds d) × (Contains ds d → Contains late d)
      late_are d = (late-named d, named-late d)
