-- The machines for tests send to no node what they may not. They cite these where they show their law `silent`.
use Rattle.std.proofs.Common.{◌≡◌, ℕ, ◌+◌, ◌%◌, ◌<◌, ◌≤◌, Bool, true, false, cond, sym, ◌∙◌, arith, inl, inr, nat_eq}
use Rattle.std.specs.Prelude.{◌⊎◌, ◌≢◌, None}
use Rattle.std.proofs.lemmas.Bool.Decides.{eqb_tells}
use Rattle.lf_sim.specs.declared.out.Out.{Out}
use Rattle.lf_sim.specs.Outs.{note_to, nothing, with_note}
use Rattle.lf_sim.specs.OutsLemmas.{note_to-nothing, with_note-others}
use Rattle.sim_examples.specs.Samples.{ring_out, hub_out}

other-than : (n nodes to m : ℕ) → (to ≡ n) ⊎ (nodes ≤ to) → m ≢ n → m < nodes → to ≢ m
other-than n nodes to m (inl same) apart node = λ e. apart (sym e ∙ same)
other-than n nodes to m (inr far) apart node = λ e. omega (arith, e, far, node)

with_none : (out : Out ℕ) (m x to : ℕ) → to ≢ m → note_to out to ≡ None → note_to (with_note out m x) to ≡ None
with_none out m x to apart none = with_note-others out m x to apart ∙ none

cond-none : (b : Bool) (one other : Out ℕ) (to : ℕ) → note_to one to ≡ None → note_to other to ≡ None → note_to (cond b one other) to ≡ None
cond-none true one other to h k = h
cond-none false one other to h k = k

pub ring-silent : (n t to state : ℕ) → n < 4 → (to ≡ n) ⊎ (4 ≤ to) → note_to (ring_out n t state) to ≡ None
ring-silent n t to state node nobody =
    let next : to ≢ (n + 1) % 4 = other-than n 4 to ((n + 1) % 4) nobody (λ e. omega (arith, e, node)) (omega arith) in
    let after : to ≢ (n + 2) % 4 = other-than n 4 to ((n + 2) % 4) nobody (λ e. omega (arith, e, node)) (omega arith) in
    let once : Out ℕ = with_note nothing ((n + 1) % 4) 1 in
    let twice : Out ℕ = with_note once ((n + 1) % 4) state in
    let silent : note_to twice to ≡ None =
    with_none once ((n + 1) % 4) state to next (with_none nothing ((n + 1) % 4) 1 to next (note_to-nothing {Note = ℕ} to)) in
    cond-none (nat_eq (t % 2) 0) (with_note twice ((n + 2) % 4) t) twice to (with_none twice ((n + 2) % 4) t to after silent) silent

pub hub-silent : (n t to state : ℕ) → n < 3 → (to ≡ n) ⊎ (3 ≤ to) → note_to (hub_out n t state) to ≡ None
hub-silent n t to state node nobody = elim (eqb_tells n 0) [
  | inl same ↦
      let apart : to ≢ 2 = other-than n 3 to 2 nobody (λ e. omega (arith, e, same.1)) (omega arith) in
      rw same.0 (cond-none (nat_eq (t % 3) 0) (with_note nothing 2 state) nothing to (with_none nothing 2 state to apart (note_to-nothing {Note = ℕ} to))
      (note_to-nothing {Note = ℕ} to))
  | inr other ↦
      let apart : to ≢ 0 = other-than n 3 to 0 nobody (λ e. other.1 (sym e)) (omega arith) in
      rw other.0 (with_none nothing 0 state to apart (note_to-nothing {Note = ℕ} to))
]
