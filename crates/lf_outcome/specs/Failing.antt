-- By which step a run is seen to miss an outcome.
use Rattle.std.specs.Prelude.{ℕ, zero, suc, Bool, false, true, not, ◌||◌, nat_lt, min, List, Option, None, Some}
use Rattle.lf_faults.specs.declared.fault.Parts.{Parts}
use Rattle.lf_outcome.specs.declared.formula.Formula.{Formula}
use Rattle.lf_outcome.specs.Truth.{is_down, is_shown, is_single, truth}
use Rattle.lf_outcome.specs.Unfolding.{unfolded}
use Rattle.lf_sim.specs.Runs.{World}

module _ {State Note Fact : Type 0} (w : World State Note Fact) (faults : List Parts) (t : ℕ) where
  -- each point past t counts as down, and as showing each fact
  abbrev pub down_or_later : ℕ → ℕ → Bool
  down_or_later n u = nat_lt t u || is_down w faults n u

  abbrev pub shown_or_later : ℕ → ℕ → Fact → Bool
  shown_or_later n u fact = nat_lt t u || is_shown w faults n u fact

  -- nothing is entered past t
  abbrev pub single_by : ℕ → ℕ → ℕ → Bool
  single_by nodes last topic = is_single w faults nodes (min last t) topic

  -- the formula, unfolded, is true if all that it asks of steps past t turns out true
  abbrev pub may_reach : Formula Fact → Bool
  may_reach f = truth down_or_later shown_or_later single_by (unfolded f)

  -- it is false even then
  abbrev pub fails_by : Formula Fact → Bool
  fails_by formula = not (may_reach formula)

-- the place that is there, or else this one where it counts
abbrev pub or_here : Option ℕ → Bool → ℕ → Option ℕ
or_here (Some t) b n = Some t
or_here None true n = Some n
or_here None false n = None

-- the first of 0, 1, .. up to below n of which p is true
abbrev pub first_below : (ℕ → Bool) → ℕ → Option ℕ
first_below p zero = None
first_below p (suc n) = or_here (first_below p n) (p n) n

-- the first step by which the formula is seen to be false, of the steps 0 to the last
abbrev pub first_failing : {State Note Fact : Type 0} → World State Note Fact → List Parts → Formula Fact → Option ℕ
first_failing w faults formula = first_below (λ t. fails_by w faults t formula) (suc w.horizon)
