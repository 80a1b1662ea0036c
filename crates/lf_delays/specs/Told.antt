-- The late notes of a run.
use Rattle.std.specs.Prelude.{◌≡◌, ◌≢◌, ℕ, suc, ◌<◌, ◌≤◌, ◌==◌, ◌||◌, nat_lt, if◌then◌else◌, false, List, Option, Some, None}
use Rattle.std.specs.Option.{option_to_list}
use Rattle.lf_faults.specs.declared.fault.Parts.{Parts}
use Rattle.lf_faults.specs.Faults.{set_omits}
use Rattle.lf_latency.specs.declared.links.Links.{Links}
use Rattle.lf_latency.specs.Arrivals.{earliest}
use Rattle.lf_sim.specs.Runs.{World, each_below, sent}
use Rattle.lf_delays.specs.declared.delay.Delay.{Delay}

module _ {State Note Fact : Type 0} (w : World State Note Fact) (faults : List Parts) (links : Links) where
  -- one node sends the note to another, the set doesn't omit it, and it arrives at this step, which is later than it could
  pub record IsLate (d : Delay) : Type 0 where
    pub sender : d.slot.from < w.rules.nodes
    pub receiver : d.slot.to < w.rules.nodes
    pub apart : d.slot.from ≢ d.slot.to
    pub first : 1 ≤ d.slot.step
    pub last : d.slot.step ≤ w.horizon
    pub note : Note
    pub sends : sent w faults d.slot.from d.slot.to d.slot.step ≡ Some note
    pub kept : set_omits faults d.slot.from d.slot.to d.slot.step ≡ false
    pub arrives : d.at ≡ w.arrival d.slot.from d.slot.to d.slot.step
    pub late : earliest links d.slot.from d.slot.to d.slot.step < d.at

  -- the note that n sends to m at t, where it arrives later than it could
  abbrev pub late_sent : ℕ → ℕ → ℕ → Option Note → Option Delay
  late_sent t n m None = None
  late_sent t n m (Some note) =
      if nat_lt (earliest links n m t) (w.arrival n m t)
      then Some (record { slot = record { from = n; to = m; step = t }; at = w.arrival n m t })
      else None

  -- the same, unless it is omitted
  abbrev pub late_note : ℕ → ℕ → ℕ → Option Delay
  late_note t n m = if (n == m) || set_omits faults n m t then None else late_sent t n m (sent w faults n m t)

  abbrev pub told_in : ℕ → ℕ → ℕ → List Delay
  told_in t n m = option_to_list (late_note t n m)

  -- those that n sends at t, by receiver
  abbrev pub told_from : ℕ → ℕ → List Delay
  told_from t n = each_below (told_in t n) w.rules.nodes

  -- those that are sent at t, by sender
  abbrev pub told_at : ℕ → List Delay
  told_at t = each_below (told_from t) w.rules.nodes

  -- those of all steps, in order
  abbrev pub told : List Delay
  told = each_below (λ past. told_at (suc past)) w.horizon
