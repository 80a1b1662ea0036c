-- The machines for tests send to no node what they may not. They cite these where they show their law `silent`.
use Rattle.std.proofs.Common.{◌≡◌, ℕ, ◌+◌, ◌%◌, ◌<◌, ◌≤◌, Bool, true, false, cond, sym, ◌∙◌, arith, inl, inr, nat_eq}
use Rattle.std.specs.Prelude.{◌⊎◌, ◌≢◌, None}
use Rattle.std.proofs.lemmas.Bool.Decides.{eqb_tells}
use Rattle.lf_sim.specs.declared.out.Out.{Out}
use Rattle.lf_sim.specs.Outs.{note_to, nothing, to_others, with_note}
use Rattle.lf_sim.specs.OutsLemmas.{note_to-nothing, to_others-silent, with_note-others}
use Rattle.sim_examples.specs.Beacons.{beacon_out}

other-than : (n nodes to m : ℕ) → (to ≡ n) ⊎ (nodes ≤ to) → m ≢ n → m < nodes → to ≢ m
other-than n nodes to m (inl same) apart node = λ e. apart (sym e ∙ same)
other-than n nodes to m (inr far) apart node = λ e. omega (arith, e, far, node)

pub beacon-silent : (n t to : ℕ) → (to ≡ n) ⊎ (4 ≤ to) → note_to (beacon_out n t) to ≡ None
beacon-silent n t to nobody = elim (eqb_tells ((n + t) % 4) n) [
  | inl same ↦ rw same.0 (note_to-nothing {Note = ℕ} to)
  | inr other ↦
      let apart : to ≢ (n + t) % 4 = other-than n 4 to ((n + t) % 4) nobody other.1 (omega arith) in
      rw other.0 (with_note-others nothing ((n + t) % 4) t to apart ∙ note_to-nothing {Note = ℕ} to)
]

cond-none : (b : Bool) (one other : Out ℕ) (to : ℕ) → note_to one to ≡ None → note_to other to ≡ None → note_to (cond b one other) to ≡ None
cond-none true one other to h k = h
cond-none false one other to h k = k

pub rumour-silent : (n t to state : ℕ) → (to ≡ n) ⊎ (5 ≤ to) → note_to (cond (nat_eq state 1) (to_others 5 n t) nothing) to ≡ None
rumour-silent n t to state nobody =
    cond-none (nat_eq state 1) (to_others 5 n t) nothing to (to_others-silent 5 n t to nobody) (note_to-nothing {Note = ℕ} to)
