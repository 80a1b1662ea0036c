-- The told delays of a run make it again.
use Rattle.std.proofs.Common.{◌≡◌, ◌≢◌, ℕ, ◌<◌, ◌≤◌, true, false, List, [], ◌∷◌, refl, sym, ap, ◌∙◌, arith, inl, inr}
use Rattle.std.specs.Prelude.{Some, if◌then◌else◌}
use Rattle.std.specs.List.{Contains}
use Rattle.std.proofs.lemmas.Bool.{cases_lt, false_from_ne_true}
use Rattle.lf_delays.specs.Answers.{IsOn}
use Rattle.lf_delays.specs.Windows.{AgreeUpTo, under}
use Rattle.lf_delays.proofs.ArrivalLemmas.{did_agree, reaches_agree}
use Rattle.lf_faults.specs.declared.fault.Parts.{Parts}
use Rattle.lf_faults.specs.Faults.{set_omits}
use Rattle.lf_latency.specs.declared.network.Timing.{Timing}
use Rattle.lf_latency.specs.Arrivals.{IsAssignment, IsSlot, arrival_in, earliest}
use Rattle.lf_latency.proofs.Laws.{table_at}
use Rattle.lf_list.proofs.Laws.{Contains-first, Contains-more, cases_in, each-from, each-in, none-in}
use Rattle.lf_outcome.specs.declared.formula.Formula.{Formula}
use Rattle.lf_outcome.specs.Truth.{reaches}
use Rattle.lf_sim.specs.declared.out.Stepped.{Stepped}
use Rattle.lf_sim.specs.Outs.{note_to}
use Rattle.lf_sim.specs.Runs.{World, did, sent, view}
use Rattle.lf_delays.specs.declared.delay.Delay.{Delay}
use Rattle.lf_delays.specs.Delays.{AreApart, AreDelays, IsDelay, delayed, is_of, named_or}
use Rattle.lf_delays.specs.Told.{told}
use Rattle.lf_delays.proofs.Late.{late_in, told-late, told_apart}
use Rattle.lf_delays.proofs.Tables.{is_of-at, is_of-is, slot_same}

module _ (others : ℕ → ℕ → ℕ → ℕ) where
  -- what a member names, where no slot stands twice
  pub named-member : (ds : List Delay) (d : Delay) → AreApart ds → Contains ds d → named_or others ds d.slot.from d.slot.to d.slot.step ≡ d.at
  named-member [] d apart h = absurd (none-in d h)
  named-member (x ∷ xs) d apart h = elim (cases_in x xs d h) [
    | inl same ↦
        ap (λ b. if b then x.at else named_or others xs d.slot.from d.slot.to d.slot.step)
        (is_of-at d.slot.from d.slot.to d.slot.step x (ap (λ y. y.slot.from) (sym same)) (ap (λ y. y.slot.to) (sym same)) (ap (λ y. y.slot.step) (sym same)))
        ∙ ap (λ y. y.at) same
    | inr later ↦
        let other = each-in (λ e. e.slot ≢ x.slot) xs apart.0 d later in
        let fails : is_of d.slot.from d.slot.to d.slot.step x ≡ false = false_from_ne_true (is_of d.slot.from d.slot.to d.slot.step x) (λ e.
        let same = is_of-is d.slot.from d.slot.to d.slot.step x e in
        other (slot_same d.slot x.slot same.0 same.1 same.2)) in
        ap (λ b. if b then x.at else named_or others xs d.slot.from d.slot.to d.slot.step) fails ∙ named-member xs d apart.1 later
  ]

  -- and what is named of a slot that no member is of
  pub named-none : (ds : List Delay) (n m t : ℕ) → ((d : Delay) → Contains ds d → is_of n m t d ≡ true → ⊥) → named_or others ds n m t ≡ others n m t
  named-none [] n m t none = refl
  named-none (x ∷ xs) n m t none =
      ap (λ b. if b then x.at else named_or others xs n m t) (false_from_ne_true (is_of n m t x) (none x (Contains-first x xs)))
      ∙ named-none xs n m t (λ d h. none d (Contains-more x xs d h))

module _ {State Note Fact : Type 0} (timing : Timing) (w : World State Note Fact) (faults : List Parts) (on : IsOn timing w)
    (assigned : IsAssignment timing w.arrival) where
  slot_of : (n m t : ℕ) → n < w.rules.nodes → m < w.rules.nodes → n ≢ m → 1 ≤ t → t ≤ w.horizon → IsSlot timing n m t
  slot_of n m t from to apart first last =
      let nodes = on.nodes in
      let horizon = on.horizon in
      record {
        pair = record { sender = omega (arith, from, nodes); receiver = omega (arith, to, nodes); apart = apart };
        first = first;
        last = omega (arith, last, horizon);
      }

  -- they are delays of the network,
  pub told_are : AreDelays timing (told w faults timing.links)
  told_are = record {
    each = each-from (IsDelay timing) (told w faults timing.links) (λ d h.
        let is = told-late w faults timing.links d h in
        let slot = slot_of d.slot.from d.slot.to d.slot.step is.sender is.receiver is.apart is.first is.last in
        let window = assigned d.slot.from d.slot.to d.slot.step slot in
        let late = is.late in
        let latest = window.1 in
        let arrives = is.arrives in
        record { slot = slot; window = (omega (arith, late), omega (arith, latest, arrives)) });
    apart = told_apart w faults timing.links;
  }

  -- and name the step at which a note arrives that is sent and kept
  named_at : (n m t : ℕ) (note : Note) → n < w.rules.nodes → m < w.rules.nodes → n ≢ m → 1 ≤ t → t ≤ w.horizon → sent w faults n m t ≡ Some note
      → set_omits faults n m t ≡ false → named_or (earliest timing.links) (told w faults timing.links) n m t ≡ w.arrival n m t
  named_at n m t note from to apart first last sends kept = elim (cases_lt (earliest timing.links n m t) (w.arrival n m t)) [
    | inl late ↦
        named-member (earliest timing.links) (told w faults timing.links) (record { slot = record { from = n; to = m; step = t }; at = w.arrival n m t })
        (told_apart w faults timing.links) (late_in w faults timing.links t n m note first last from to apart kept sends late)
    | inr early ↦
        let window = assigned n m t (slot_of n m t from to apart first last) in
        let low = window.0 in
        let here : earliest timing.links n m t ≡ w.arrival n m t = omega (arith, low, early) in
        named-none (earliest timing.links) (told w faults timing.links) n m t (λ d h e.
        let is = told-late w faults timing.links d h in
        let same = is_of-is n m t d e in
        let there : w.arrival n m t ≡ w.arrival d.slot.from d.slot.to d.slot.step = rw (same.0, same.1, same.2) refl in
        let base : earliest timing.links n m t ≡ earliest timing.links d.slot.from d.slot.to d.slot.step = rw (same.0, same.1, same.2) refl in
        let late = is.late in
        let arrives = is.arrives in
        omega (arith, here, there, base, late, arrives))
        ∙ here
  ]

  abbrev again : ℕ → ℕ → ℕ → ℕ
  again = arrival_in (delayed timing (told w faults timing.links))

  agree : AgreeUpTo w faults again (λ n. w.horizon)
  agree n m t u note from to apart first last early low up sends kept =
      let is : again n m t ≡ w.arrival n m t =
      table_at timing (named_or (earliest timing.links) (told w faults timing.links)) n m t on.eight on.short (slot_of n m t from to apart first last)
      ∙ named_at n m t note from to apart first last sends kept in
      ((λ e. is ∙ e), (λ e. sym is ∙ e))

  pub replay_reaches : (formula : Formula Fact) → reaches (under w again) faults formula ≡ reaches w faults formula
  replay_reaches formula = sym (reaches_agree w faults again agree formula)

  replay_did : (n t : ℕ) → t ≤ w.horizon → did (under w again) faults n t ≡ did w faults n t
  replay_did n t low = sym (did_agree w faults again (λ k. w.horizon) (λ k j. omega arith) agree n t low)

  pub replay_views : (n t : ℕ) → t ≤ w.horizon → view (under w again) faults n t ≡ view w faults n t
  replay_views n t low = ap (λ (x : Stepped State Note). x.state) (replay_did n t low)

  pub replay_notes : (n m t : ℕ) → t ≤ w.horizon → sent (under w again) faults n m t ≡ sent w faults n m t
  replay_notes n m t low = ap (λ (x : Stepped State Note). note_to x.out m) (replay_did n t low)
