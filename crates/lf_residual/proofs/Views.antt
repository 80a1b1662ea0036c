-- What lasts over the steps of a run.
use Rattle.std.proofs.Common.{◌≡◌, ℕ, zero, suc, ◌+◌, ◌≤◌, true, false, List, sym, ap, subst, arith, inl, inr, add-one}
use Rattle.std.proofs.lemmas.Bool.{and_from, cases_Bool, cases_eq, false_from_ne_true}
use Rattle.lf_faults.specs.declared.fault.Parts.{Parts}
use Rattle.lf_faults.specs.Faults.{set_wakes}
use Rattle.lf_sim.specs.declared.out.Stepped.{Stepped}
use Rattle.lf_sim.specs.Runs.{World, is_up, before_step, view, inbox}
use Rattle.lf_sim.proofs.Laws.{did-zero, did-up, did-down, before_step-awake, before_step-woken}
use Rattle.lf_protocols.specs.declared.fact.Fact.{Fact}
use Rattle.lf_protocols.specs.declared.note.Note.{Note}
use Rattle.lf_protocols.specs.declared.protocol.Kind.{Kind}
use Rattle.lf_protocols.specs.declared.state.State.{State}
use Rattle.lf_protocols.specs.Protocols.{start_of, step_of, shows_of}
use Rattle.lf_outcome.specs.Truth.{is_shown}
use Rattle.lf_residual.specs.Lasting.{lasts_of, world_with}
use Rattle.lf_residual.proofs.Steps.{lasts-shows, is_commit, start-open, wake-keeps, step-keeps}

module _ (k : Kind) (horizon pause_length : ℕ) (arrival : ℕ → ℕ → ℕ → ℕ) (faults : List Parts) (n : ℕ) (fact : Fact) where
  abbrev w : World State Note Fact
  w = world_with k horizon pause_length arrival

  abbrev Lasts : State → Type 0
  Lasts state = lasts_of k state fact ≡ true

  abbrev state_of : Stepped State Note → State
  state_of turn = turn.state

  -- in the state from which a step starts
  before : (t : ℕ) (last : State) → Lasts last → Lasts (before_step w faults n t last)
  before t last h = elim (cases_Bool (set_wakes pause_length faults n t)) [
    | inl woken ↦ subst Lasts (sym (before_step-woken w faults n t last woken)) (wake-keeps k n t last fact h)
    | inr awake ↦ subst Lasts (sym (before_step-awake w faults n t last awake)) h
  ]

  -- of a commit nothing lasts before step 1
  opens : (t : ℕ) → t + 1 ≡ 1 → Lasts (view w faults n t) → is_commit k ≡ false
  opens t e h =
      let none : t ≡ 0 = omega (arith, e) in
      let start : view w faults n 0 ≡ start_of k n = ap state_of (did-zero w faults n) in
      let first : Lasts (view w faults n 0) = subst (λ s. Lasts (view w faults n s)) none h in
      false_from_ne_true (is_commit k) (λ c. start-open k n fact c (subst Lasts start first))

  next : (t : ℕ) → Lasts (view w faults n t) → Lasts (view w faults n (t + 1))
  next t h = elim (cases_Bool (is_up w faults n (t + 1))) [
    | inl up ↦
        let from : State = before_step w faults n (t + 1) (view w faults n t) in
        let kept : Lasts (step_of k n (t + 1) from (inbox w faults n (t + 1))).state =
        step-keeps k n (t + 1) from (inbox w faults n (t + 1)) fact (λ e. opens t e h) (before (t + 1) (view w faults n t) h) in
        subst Lasts (sym (ap state_of (did-up w faults n t up))) kept
    | inr down ↦ subst Lasts (sym (ap state_of (did-down w faults n t down))) h
  ]

  pub lasts-next : (t u : ℕ) → t ≤ u → Lasts (view w faults n t) → Lasts (view w faults n u)
  lasts-next t zero le h = subst (λ s. Lasts (view w faults n s)) (omega (arith, le)) h
  lasts-next t (suc u) le h = elim (cases_eq t (suc u)) [
    | inl same ↦ subst (λ s. Lasts (view w faults n s)) same h
    | inr apart ↦ subst (λ s. Lasts (view w faults n s)) (add-one u) (next u (lasts-next t u (omega (arith, le)) h))
  ]

  pub lasting-shown : (t u : ℕ) → t ≤ u → Lasts (view w faults n t) → is_up w faults n u ≡ true → is_shown w faults n u fact ≡ true
  lasting-shown t u le h up =
      and_from (is_up w faults n u) (shows_of k n (view w faults n u) fact) up (lasts-shows k n (view w faults n u) fact (lasts-next t u le h))
