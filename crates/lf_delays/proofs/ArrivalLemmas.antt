-- What arrivals that agree have in common, and sets that reach by them.
use Rattle.std.proofs.Common.{◌≡◌, ℕ, ◌≤◌, true, List, length}
use Rattle.lf_faults.specs.declared.fault.Parts.{Parts}
use Rattle.lf_latency.specs.declared.network.Timing.{Timing}
use Rattle.lf_latency.specs.Arrivals.{IsSlot}
use Rattle.lf_outcome.specs.declared.formula.Formula.{Formula}
use Rattle.lf_outcome.specs.Truth.{reaches}
use Rattle.lf_sim.specs.Runs.{World, is_up, did, inbox}
use Rattle.lf_delays.specs.Answers.{IsOn}
use Rattle.lf_delays.specs.Windows.{under, AreLevel, AgreeUpTo}
use Rattle.lf_delays.proofs.Agreeing as agreeing

module _ {State Note Fact : Type 0} (w : World State Note Fact) (fs : List Parts) (other : ℕ → ℕ → ℕ → ℕ) where
  -- Assignments that agree on what has arrived up to some steps make the same run up to them
  pub did_agree : (reach : ℕ → ℕ) → AreLevel reach → AgreeUpTo w fs other reach → (n t : ℕ) → t ≤ reach n → did w fs n t ≡ did (under w other) fs n t
  did_agree = agreeing.did_agree w fs other

  pub inbox_agree : (reach : ℕ → ℕ) → AreLevel reach → AgreeUpTo w fs other reach → (m u : ℕ) → u ≤ reach m → is_up w fs m u ≡ true
      → inbox w fs m u ≡ inbox (under w other) fs m u
  inbox_agree = agreeing.inbox_agree w fs other

  -- who is up doesn't depend on arrivals
  pub up_agree : (n t : ℕ) → is_up w fs n t ≡ is_up (under w other) fs n t
  up_agree = agreeing.up_same w fs other

  -- where they agree up to the last step, the set reaches by both or by neither
  pub reaches_agree : AgreeUpTo w fs other (λ n. w.horizon) → (f : Formula Fact) → reaches w fs f ≡ reaches (under w other) fs f
  reaches_agree = agreeing.reaches_agree w fs other

-- Assignments that are the same at each slot make the same answer to whether a set reaches
pub slots_reach : {State Note Fact : Type 0} (timing : Timing) (w : World State Note Fact) → IsOn timing w → (a d : ℕ → ℕ → ℕ → ℕ)
    → ((n m t : ℕ) → IsSlot timing n m t → a n m t ≡ d n m t) → (fs : List Parts) (f : Formula Fact) → reaches (under w a) fs f ≡ reaches (under w d) fs f
slots_reach = agreeing.slots_reach
