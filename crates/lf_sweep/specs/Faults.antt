-- Why it ends before the last question.
use Rattle.std.specs.Prelude.{◌≡◌, ◌⊎◌, ℕ, ◌<◌, Bool, true, false}
use Rattle.lf_sweep.specs.declared.error.TextError.{TextError}
use Rattle.lf_sweep.specs.declared.error.TextError.TheVariants as texts
use Rattle.lf_sweep.specs.declared.part.Part.{Part}
use Rattle.lf_sweep.specs.Parts.{number_at}
use Rattle.lf_sweep.specs.declared.fault.SweepFault.{SweepFault}
use Rattle.lf_sweep.specs.declared.fault.SweepFault.TheVariants as faults

-- where a combination has no text
abbrev pub fault_of : TextError → SweepFault
fault_of texts.NoDocument = faults.NoDocument
fault_of texts.Date = faults.Date
fault_of texts.Memory = faults.Memory

-- the sink failed
abbrev pub is_write : SweepFault → Bool
is_write faults.NoDocument = false
is_write faults.Date = false
is_write faults.Protocol = false
is_write faults.Memory = false
is_write faults.Write = true

module _ (Refuses : ℕ → SweepFault → Type 0) where
  -- the question with this number has no line for this fault. Memory may be wanting for any
  abbrev pub HasNoRow : ℕ → SweepFault → Type 0
  HasNoRow number e = (e ≡ faults.Memory) ⊎ Refuses number e

  -- one of a part's questions has none, or memory is wanting
  abbrev pub HasCause : ℕ → Part → SweepFault → Type 0
  HasCause count part e =
      (e ≡ faults.Memory)
      ⊎ ((place : ℕ) × (number_at part place < count) × HasNoRow (number_at part place) e)
