-- The answer over every delay, from tables, without spread, and over a seed.
use Rattle.std.proofs.Common.{◌≡◌, ℕ, false, not, List, sym, ap, ◌∙◌, arith}
use Rattle.std.specs.Prelude.{Option, None, Some}
use Rattle.std.specs.Option.{option_map}
use Rattle.std.proofs.lemmas.Bool.{both_ways, not-true, not-false, false_from_ne_true, true_from_ne_false}
use Rattle.lf_faults.specs.declared.fault.Parts.{Parts}
use Rattle.lf_faults.specs.declared.spec.Bounds.{Bounds}
use Rattle.lf_faults.specs.Faults.{set_is_before}
use Rattle.lf_faults.specs.Allowed.{IsAllowed, IsFirst}
use Rattle.lf_latency.specs.declared.network.Timing.{Timing}
use Rattle.lf_latency.specs.declared.arrivals.Arrivals.{Arrivals}
use Rattle.lf_latency.specs.Arrivals.{IsTiming, IsSlot, IsAssignment, IsArrivals, arrival_in, arrival_of}
use Rattle.lf_latency.specs.Table.{arrivals_by}
use Rattle.lf_latency.proofs.Laws.{seeded_assigned, arrivals_assigned, table_at, table_is}
use Rattle.lf_layers.specs.Worlds.{IsFirstOver}
use Rattle.lf_outcome.specs.declared.formula.Formula.{Formula}
use Rattle.lf_outcome.specs.Truth.{reaches}
use Rattle.lf_sim.specs.Runs.{World}
use Rattle.lf_delays.specs.Answers.{IsOn, IsFirstUnder, HasNoSpread, with_seed, IsNotBefore, misses_by, misses_in}
use Rattle.lf_delays.specs.Windows.{under}
use Rattle.lf_delays.proofs.Agreeing.{slots_reach}

module _ {State Note Fact : Type 0} (timing : Timing) (b : Bounds) (w : World State Note Fact) (formula : Formula Fact) where
  -- by an assignment a set reaches as it does by the assignment's table
  as_table : IsOn timing w → (a : ℕ → ℕ → ℕ → ℕ) (fs : List Parts)
      → reaches (under w (arrival_in (arrivals_by timing a))) fs formula ≡ reaches (under w a) fs formula
  as_table on a fs =
      slots_reach timing w on (arrival_in (arrivals_by timing a)) a (λ n m t slot. table_at timing a n m t on.eight on.short slot) fs formula

  -- the first set over all tables is the first over all assignments
  pub from_tables : IsOn timing w → (answer : Option (List Parts × Arrivals)) → IsFirstOver b (IsArrivals timing) (misses_by w formula) answer
      → IsFirstUnder timing b w formula answer
  from_tables on None first = λ a fs assigned allowed.
      let table = arrivals_by timing a in
      sym (as_table on a fs)
      ∙ not-false (reaches (under w (arrival_in table)) fs formula) (first table fs (table_is timing a on.eight on.short assigned) allowed)
  from_tables on (Some x) first = (
    first.0,
    first.1,
    not-true (reaches (under w (arrival_in x.1)) x.0 formula) first.2,
    λ a fs assigned allowed before.
        let table = arrivals_by timing a in
        sym (as_table on a fs)
        ∙ true_from_ne_false (reaches (under w (arrival_in table)) fs formula)
        (λ no. both_ways (set_is_before fs x.0)
        (first.3 table fs (table_is timing a on.eight on.short assigned) allowed (ap not no)) before),
  )

  -- the arrivals of a seed are an assignment
  seed_is : (seed : List ℕ) → IsAssignment timing (arrival_of (with_seed timing seed))
  seed_is seed = λ n m t slot. seeded_assigned (with_seed timing seed) n m t (record { pair = slot.pair; first = slot.first; last = slot.last })

  own_is : IsTiming timing → IsAssignment timing (arrival_of timing)
  own_is limits = arrivals_assigned timing limits

  -- without spread there is one assignment alone
  one_is : IsTiming timing → HasNoSpread timing → (a : ℕ → ℕ → ℕ → ℕ) → IsAssignment timing a → (n m t : ℕ) → IsSlot timing n m t
      → a n m t ≡ arrival_of timing n m t
  one_is limits none a assigned n m t slot =
      let window = assigned n m t slot in
      let own = own_is limits n m t slot in
      let spread = none n m slot.pair in
      let low = window.0 in
      let high = window.1 in
      let from = own.0 in
      let to = own.1 in
      omega (arith, low, high, from, to, spread)

  -- so the answer is the plain one
  pub without_spread : IsTiming timing → IsOn timing w → HasNoSpread timing → (answer : Option (List Parts × Arrivals)) → IsFirstUnder timing b w formula answer
      → IsFirst b (misses_in (under w (arrival_of timing)) formula) (option_map (λ x. x.0) answer)
  without_spread limits on none None first = λ fs allowed. ap not (first (arrival_of timing) fs (own_is limits) allowed)
  without_spread limits on none (Some x) first = (
    first.0,
    ap not
        (sym (slots_reach timing w on (arrival_in x.1) (arrival_of timing) (one_is limits none (arrival_in x.1) first.1.assigned) x.0 formula) ∙ first.2),
    λ fs allowed miss.
        false_from_ne_true (set_is_before fs x.0)
        (λ before.
        both_ways (reaches (under w (arrival_of timing)) fs formula) (not-true (reaches (under w (arrival_of timing)) fs formula) miss)
        (first.3 (arrival_of timing) fs (own_is limits) allowed before)),
  )

  -- and what misses over a seed doesn't come before the answer
  pub over_seed : (answer : Option (List Parts × Arrivals)) → IsFirstUnder timing b w formula answer → (seed : List ℕ) (fs : List Parts) → IsAllowed b fs
      → reaches (under w (arrival_of (with_seed timing seed))) fs formula ≡ false → IsNotBefore fs answer
  over_seed None first seed fs allowed miss =
      both_ways (reaches (under w (arrival_of (with_seed timing seed))) fs formula) miss
      (first (arrival_of (with_seed timing seed)) fs (seed_is seed) allowed)
  over_seed (Some x) first seed fs allowed miss =
      false_from_ne_true (set_is_before fs x.0)
      (λ before.
      both_ways (reaches (under w (arrival_of (with_seed timing seed))) fs formula) miss
      (first.3 (arrival_of (with_seed timing seed)) fs (seed_is seed) allowed before))
