-- Every so many-th question.
use Rattle.std.specs.Prelude.{ℕ, ◌+◌, ◌-◌, ◌*◌, ◌≤◌, ◌<◌}
use Rattle.lf_sweep.specs.declared.part.Part.{Part}

-- the number, from 0, of a part's question at a place, from 0
abbrev pub number_at : Part → ℕ → ℕ
number_at part place = part.which - 1 + place * part.parts

-- so many of the questions are the part's: those at the places before are questions, and the one at the place behind them isn't
pub record IsLengthOf (part : Part) (count places : ℕ) : Type 0 where
  pub inside : (place : ℕ) → place < places → number_at part place < count
  pub whole : count ≤ number_at part places
