-- What crates above may cite of this one beside its contracts.
use Rattle.std.proofs.Common.{◌≡◌, ℕ, ◌≤◌, false, List, refl, sym, ap, ◌∙◌, subst}
use Rattle.lf_delays.specs.Answers.{IsOn, IsFirstUnder, misses_by}
use Rattle.lf_delays.specs.Windows.{under}
use Rattle.lf_faults.specs.declared.fault.Parts.{Parts}
use Rattle.lf_faults.specs.declared.spec.Bounds.{Bounds}
use Rattle.lf_layers.specs.Worlds.{IsFirstOver}
use Rattle.std.specs.Prelude.{Option}
use Rattle.lf_latency.specs.declared.arrivals.Arrivals.{Arrivals}
use Rattle.lf_latency.specs.declared.links.Links.{Links}
use Rattle.lf_latency.specs.declared.network.Timing.{Timing}
use Rattle.lf_latency.specs.Arrivals.{IsArrivals, IsAssignment, IsInWindow, IsSlot, arrival_in, earliest}
use Rattle.lf_latency.specs.Links.{IsPair}
use Rattle.lf_latency.specs.Table.{arrivals_by, table_by}
use Rattle.lf_list.proofs.Laws.{each-from, each-in}
use Rattle.lf_outcome.specs.declared.formula.Formula.{Formula}
use Rattle.lf_outcome.specs.Truth.{reaches}
use Rattle.lf_sim.specs.Runs.{World}
use Rattle.lf_delays.specs.declared.delay.Delay.{Delay}
use Rattle.lf_delays.specs.Delays.{AreDelays, IsDelay, delayed, named_or}
use Rattle.lf_delays.specs.Tight.{AreNeeded, IsTight, reaches_by}
use Rattle.lf_delays.specs.Told.{told}
use Rattle.lf_delays.proofs.Answering as answering
use Rattle.lf_delays.proofs.ArrivalLemmas as arrivals
use Rattle.lf_delays.proofs.Replaying as replaying
use Rattle.lf_delays.proofs.Sparing as sparing
use Rattle.lf_delays.proofs.Tables as tables

-- The first set over all tables is the first over all assignments
pub from_tables : {State Note Fact : Type 0} (timing : Timing) (b : Bounds) (w : World State Note Fact) (formula : Formula Fact) → IsOn timing w
    → (answer : Option (List Parts × Arrivals)) → IsFirstOver b (IsArrivals timing) (misses_by w formula) answer
    → IsFirstUnder timing b w formula answer
from_tables = answering.from_tables

-- Assignments that are the same at each slot make the same answer to whether a set reaches
pub slots_reach : {State Note Fact : Type 0} (timing : Timing) (w : World State Note Fact) → IsOn timing w → (a d : ℕ → ℕ → ℕ → ℕ)
    → ((n m t : ℕ) → IsSlot timing n m t → a n m t ≡ d n m t) → (fs : List Parts) (f : Formula Fact) → reaches (under w a) fs f ≡ reaches (under w d) fs f
slots_reach = arrivals.slots_reach

-- The told delays are delays of the network, and make the same run again
pub told_are : {State Note Fact : Type 0} (timing : Timing) (w : World State Note Fact) (faults : List Parts) → IsOn timing w → IsAssignment timing w.arrival
    → AreDelays timing (told w faults timing.links)
told_are = replaying.told_are

pub told_reach : {State Note Fact : Type 0} (timing : Timing) (w : World State Note Fact) (faults : List Parts) → IsOn timing w → IsAssignment timing w.arrival
    → (formula : Formula Fact) → reaches_by timing w faults formula (told w faults timing.links) ≡ reaches w faults formula
told_reach = replaying.replay_reaches

-- Delays of a network are arrivals of it
pub delayed_is : (timing : Timing) (ds : List Delay) → timing.nodes ≤ 8 → timing.horizon ≤ 48 → AreDelays timing ds → IsArrivals timing (delayed timing ds)
delayed_is = tables.delayed_is

-- Where none of them can be spared, the run that they make is tight
pub tight_by : {State Note Fact : Type 0} (timing : Timing) (w : World State Note Fact) (faults : List Parts) (formula : Formula Fact) → IsOn timing w
    → (ds : List Delay) → AreDelays timing ds → reaches_by timing w faults formula ds ≡ false → AreNeeded timing w faults formula ds
    → IsTight timing (under w (arrival_in (delayed timing ds))) faults formula
tight_by = sparing.tight_by

-- Networks of the same nodes, steps and links have the same delays, which are the same arrivals
module _ (one other : Timing) (nodes : one.nodes ≡ other.nodes) (horizon : one.horizon ≡ other.horizon) (links : one.links ≡ other.links) where
  delay_of_same : (d : Delay) → IsDelay one d → IsDelay other d
  delay_of_same d is = record {
    slot = record {
      pair = subst (λ k. IsPair k d.slot.from d.slot.to) nodes is.slot.pair;
      first = is.slot.first;
      last = subst (λ k. d.slot.step ≤ k) horizon is.slot.last;
    };
    window = subst (λ l. IsInWindow l d.slot.from d.slot.to d.slot.step d.at) links is.window;
  }

  pub delays_of_same : (ds : List Delay) → AreDelays one ds → AreDelays other ds
  delays_of_same ds are = record {
    each = each-from (IsDelay other) ds (λ d h. delay_of_same d (each-in (IsDelay one) ds are.each d h));
    apart = are.apart;
  }

  abbrev entries : ℕ → ℕ → Links → List Delay → Arrivals
  entries n t l ds = arrivals_by (record { seed = one.seed; links = l; nodes = n; horizon = t; chosen = one.chosen }) (named_or (earliest l) ds)

  as_entries : (ds : List Delay) → delayed other ds ≡ entries other.nodes other.horizon other.links ds
  unfolding table_by
  as_entries ds = refl

  pub delayed_of_same : (ds : List Delay) → delayed one ds ≡ delayed other ds
  delayed_of_same ds =
      ap (λ n. entries n one.horizon one.links ds) nodes ∙ ap (λ t. entries other.nodes t one.links ds) horizon
      ∙ ap (λ l. entries other.nodes other.horizon l ds) links ∙ sym (as_entries ds)
