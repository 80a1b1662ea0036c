-- What each fault of a set is needed for.
use Rattle.std.specs.Prelude.{ℕ, suc, Bool, false, true, if◌then◌else◌, List, [], ◌++◌, length, take, drop, codes, slice_get, Option, None, Some}
use Rattle.std.specs.Option.{unwrap_or}
use Rattle.lf_trace.specs.Elsewhere.{elsewhere, told_or}
use Rattle.lf_trace.specs.First.{first_difference}
use Rattle.lf_outcome.specs.Failing.{first_failing}
use Rattle.lf_faults.specs.declared.fault.Parts.{Parts}
use Rattle.lf_faults.specs.declared.fault.Parts.TheVariants.{Omit, Crash, Pause}
use Rattle.lf_faults.specs.Texts.{spelling}
use Rattle.lf_outcome.specs.declared.formula.Formula.{Formula}
use Rattle.lf_sim.specs.Runs.{World, each_below}
use Rattle.lf_trace.specs.Lines.{line}
use Rattle.lf_trace.specs.Traces.{end_word}
use Rattle.lf_trace.specs.Words.{Words}

-- the set without the fault at a place, of places from 0
abbrev pub without : List Parts → ℕ → List Parts
without set place = take place set ++ drop (suc place) set

-- the text of the fault, where there is one
abbrev pub name : Option Parts → List ℕ
name None = []
name (Some f) = spelling f

abbrev pub name_at : List Parts → ℕ → List ℕ
name_at set place = name (slice_get set place)

-- `without FAULT: WORD`
abbrev pub head : List Parts → ℕ → List ℕ → List ℕ
head set place word = codes "without " ++ (name_at set place ++ (codes ": " ++ line word))

-- the fault stops a node
abbrev pub stops : Parts → Bool
stops (Omit from to step) = false
stops (Crash node step) = true
stops (Pause node step) = true

-- it is there, and stops a node
abbrev pub stops_some : Option Parts → Bool
stops_some None = false
stops_some (Some f) = stops f

abbrev pub stops_at : List Parts → ℕ → Bool
stops_at set place = stops_some (slice_get set place)

-- the first step by which the run of the set is seen to miss, or else the last step
abbrev pub failing_step : {S N F : Type 0} → World S N F → List Parts → Formula F → ℕ
failing_step w set formula = unwrap_or (first_failing w set formula) w.horizon

module _ {S N F : Type 0} (words : Words S N) (w : World S N F) (formula : Formula F) (set : List Parts) where
  -- where the run of the set differs, up to that step, beyond that nodes are down in it; or else where it first differs
  abbrev pub stop_difference : List Parts → List ℕ
  stop_difference fewer = told_or (elsewhere words w fewer set (failing_step w set formula)) (first_difference words w fewer set)

  -- how the run of the set differs from that without the fault at a place
  abbrev pub difference : ℕ → List ℕ
  difference place =
      if stops_at set place then stop_difference (without set place) else first_difference words w (without set place) set

  -- what the run comes to without the fault at a place, and how the run of the set differs from it
  abbrev pub reason : ℕ → List ℕ
  reason place = head set place (end_word w (without set place) formula) ++ difference place

  -- for each of the faults, in order
  abbrev pub reasons : List ℕ
  reasons = each_below reason (length set)
