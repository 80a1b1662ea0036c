-- What is written of the questions of a part.
use Rattle.std.specs.Prelude.{◌≡◌, ℕ, Bool, true, false, List, length, take, Option, Result, IfOk, IfErr, MatchResult}
use Rattle.std.specs.Io.KnownBytes.{Appends}
use Rattle.lf_sweep.specs.declared.part.Part.{Part}
use Rattle.lf_sweep.specs.Parts.{IsLengthOf}
use Rattle.lf_sweep.specs.declared.counts.Counts.{Counts}
use Rattle.lf_sweep.specs.declared.fault.SweepFault.{SweepFault}
use Rattle.lf_sweep.specs.Counts.{Told, counts_of}
use Rattle.lf_sweep.specs.Faults.{HasCause, is_write}
use Rattle.lf_sweep.specs.Rows.{AreLines}

module _ {W : Type 0} (written : W → Option (List ℕ)) (has_failed : W → Bool) where
  -- bytes were written, or a part of them from their front
  pub record WasPut (bytes : List ℕ) (old new : W) (result : Result (Unit {0}) SweepFault) : Type 0 where
    pub all : IfOk result (λ _. Appends (written old) (written new) bytes)
    pub front : IfErr result (λ e. (is_write e ≡ true) × ((n : ℕ) × Appends (written old) (written new) (take n bytes)))
    pub sink : MatchResult result (λ _. has_failed new ≡ false) (λ e. has_failed new ≡ is_write e)

  -- of so many questions: which replies there are to each, its line by the reply, and why it may have none
  module _ (count : ℕ) (IsReply : ℕ → Told → Type 0) (line : ℕ → Told → List ℕ) (Refuses : ℕ → SweepFault → Type 0) (part : Part) where
    -- lines of a part's questions from a place on were written, the last of them maybe not to its end
    abbrev pub WasBegun : ℕ → W → W → Type 0
    WasBegun place old new =
        (replies : List Told) × (bytes : List ℕ) × (n : ℕ) × AreLines count IsReply line part place replies bytes
        × Appends (written old) (written new) (take n bytes)

    -- the lines of so many of them were written, and these are their counts
    abbrev pub WereTold : ℕ → ℕ → W → W → Counts → Type 0
    WereTold place some old new counts =
        (replies : List Told) × (bytes : List ℕ) × AreLines count IsReply line part place replies bytes × (length replies ≡ some)
        × Appends (written old) (written new) bytes × (counts ≡ counts_of replies)

    -- so it is, or no more than a front of such lines was written for a cause
    pub record WerePut (place some : ℕ) (old new : W) (result : Result Counts SweepFault) : Type 0 where
      pub all : IfOk result (WereTold place some old new)
      pub front : IfErr result (λ _. WasBegun place old new)
      pub cause : IfErr result (λ e. is_write e ≡ false → HasCause Refuses count part e)
      pub sink : MatchResult result (λ _. has_failed new ≡ false) (λ e. has_failed new ≡ is_write e)

    -- the line of each of the part's questions was written, in their order; or a front of these lines, where it ended before
    pub record WasSwept (old new : W) (result : Result Counts SweepFault) : Type 0 where
      pub whole : IfOk result (λ counts. (some : ℕ) × IsLengthOf part count some × WereTold 0 some old new counts)
      pub front : IfErr result (λ _. WasBegun 0 old new)
      -- where the sink didn't fail, a question has no line for this fault, or memory is wanting
      pub cause : IfErr result (λ e. is_write e ≡ false → HasCause Refuses count part e)
      -- and the sink failed just where the answer says so
      pub sink : MatchResult result (λ _. has_failed new ≡ false) (λ e. has_failed new ≡ is_write e)
