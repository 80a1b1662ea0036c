-- What crates above may cite of this one beside its contracts.
use Rattle.std.proofs.Common.{◌≡◌, ℕ, ◌+◌, ◌<◌, ◌≤◌, true, List, length, arith}
use Rattle.std.specs.Prelude.{Some, slice_get}
use Rattle.std.specs.Cmp.{IsTotalOrder}
use Rattle.lf_faults.specs.declared.fault.Parts.{Parts}
use Rattle.lf_faults.specs.declared.spec.Bounds.{Bounds}
use Rattle.lf_faults.specs.Allowed.{IsAllowed}
use Rattle.lf_faults.specs.Faults.{set_cmp}
use Rattle.lf_protocols.specs.declared.fact.Fact.{Fact}
use Rattle.lf_protocols.specs.declared.note.Note.{Note}
use Rattle.lf_protocols.specs.declared.state.State.{State}
use Rattle.lf_protocols.specs.declared.protocol.Kind.{Kind}
use Rattle.lf_sim.specs.Runs.{World}
use Rattle.lf_stakes.specs.Entered.{IsEntered, is_entered_in}
use Rattle.lf_stakes.specs.Singles.{AreSingles}
use Rattle.lf_stakes.specs.Stakes.{IsTaken, counts_of, is_taken_in, rules_of}
use Rattle.lf_stakes.proofs.CountsLemmas.{count-at, none_passes, some_passes}
use Rattle.lf_stakes.proofs.EnteredLemmas as entering
use Rattle.lf_stakes.proofs.NumbersLemmas.{numbers-after}
use Rattle.lf_stakes.proofs.SinglesLemmas as singles
use Rattle.lf_stakes.proofs.TakenLemmas as taking

-- There is one list of the single sets of bounds
pub single_sets_one : (b : Bounds) → IsTotalOrder set_cmp → (xs ys : List (List Parts)) → AreSingles b xs → AreSingles b ys → xs ≡ ys
single_sets_one = singles.singles_one

module _ (k : Kind) (w : World State Note Fact) where
  -- A run counts for a rule where some node takes it at some step
  pub taken-is : (faults : List Parts) (rule : ℕ) → is_taken_in k w faults rule ≡ true → IsTaken k w faults rule
  taken-is = taking.taken-is k w

  pub is-taken : (faults : List Parts) (rule : ℕ) → IsTaken k w faults rule → is_taken_in k w faults rule ≡ true
  is-taken = taking.is-taken k w

  -- Each rule that is taken in a run is one of those that are counted
  pub taken-counted : (faults : List Parts) (rule : ℕ) → IsTaken k w faults rule → (1 ≤ rule) × (rule ≤ rules_of k)
  taken-counted faults rule is = numbers-after k w faults is.node is.past rule is.taken

  -- A rule whose count over the single sets is 0 is taken in no run of an allowed set with at most one fault,
  pub never_taken : (b : Bounds) (sets : List (List Parts)) (i : ℕ) → AreSingles b sets → slice_get (counts_of k w sets) i ≡ Some 0
      → (faults : List Parts) → IsAllowed b faults → length faults ≤ 1 → IsTaken k w faults (i + 1) → ⊥
  never_taken b sets i all none faults allowed few is =
      none_passes (is_taken_in k w) sets (i + 1) (count-at (is_taken_in k w) (rules_of k) i 0 sets none) faults
      (all.complete faults (record { allowed = allowed; few = few })) (is-taken faults (i + 1) is)

  -- and another in some
  pub sometimes_taken : (b : Bounds) (sets : List (List Parts)) (i count : ℕ) → AreSingles b sets → slice_get (counts_of k w sets) i ≡ Some count
      → 0 < count → (faults : List Parts) × IsAllowed b faults × (length faults ≤ 1) × IsTaken k w faults (i + 1)
  sometimes_taken b sets i count all there some =
      let times = count-at (is_taken_in k w) (rules_of k) i count sets there in
      let found = some_passes (is_taken_in k w) sets (i + 1) (omega (arith, times, some)) in
      let single = all.sound found.0 found.1 in
      (found.0, single.allowed, single.few, taken-is found.0 (i + 1) found.2)

-- A run counts for a topic where some node enters something under it after some step
module _ (w : World State Note Fact) where
  pub entered-is : (faults : List Parts) (topic : ℕ) → is_entered_in w faults topic ≡ true → IsEntered w faults topic
  entered-is = entering.entered-is w

  pub is-entered : (faults : List Parts) (topic : ℕ) → IsEntered w faults topic → is_entered_in w faults topic ≡ true
  is-entered = entering.is-entered w
