-- Combinations as questions: what a sweep of a study writes.
use Rattle.std.specs.Prelude.{◌≡◌, ◌⊎◌, ℕ, Bool, List, Option, Result}
use Rattle.lf_sweep.specs.declared.counts.Counts.{Counts}
use Rattle.lf_sweep.specs.declared.error.TextError.{TextError}
use Rattle.lf_sweep.specs.declared.fault.SweepFault.{SweepFault}
use Rattle.lf_sweep.specs.declared.part.Part.{Part}
use Rattle.lf_sweep.specs.declared.varied.Varied.{Varied}
use Rattle.lf_sweep.specs.Combinations.{combinations, words_at}
use Rattle.lf_sweep.specs.Counts.{Told}
use Rattle.lf_sweep.specs.Faults as faults
use Rattle.lf_sweep.specs.Lines.{line_of}
use Rattle.lf_sweep.specs.Rows as rows
use Rattle.lf_sweep.specs.Sweeps as sweeps
use Rattle.lf_sweep.specs.Texts.{HasNoText, IsTextWith}

-- the line of the combination with this number, from 0: its values, and the reply
abbrev pub told_line : List Varied → ℕ → Told → List ℕ
told_line vs number told = line_of (words_at vs number) told.0

module _ (Replies : List ℕ → List ℕ → ℕ → Type 0) (scenario : List ℕ) (vs : List Varied) where
  -- the reply is one to the text of the scenario that has the values of the combination with this number
  pub record IsReplyTo (number : ℕ) (told : Told) : Type 0 where
    pub text : List ℕ
    pub asked : IsTextWith scenario vs (words_at vs number) text
    pub replied : Replies text told.0 told.1

  -- the replies are those to a part's combinations at this place and the following
  abbrev pub AreReplies : Part → ℕ → List Told → Type 0
  AreReplies = rows.AreReplies (combinations vs) IsReplyTo

  -- and the bytes are their lines
  abbrev pub AreLines : Part → ℕ → List Told → List ℕ → Type 0
  AreLines = rows.AreLines (combinations vs) IsReplyTo (told_line vs)

  -- these are their counts, and there are so many
  abbrev pub AreToldAt : Part → ℕ → ℕ → List ℕ → Counts → Type 0
  AreToldAt = rows.AreToldAt (combinations vs) IsReplyTo (told_line vs)

module _ (Refuses : SweepFault → Type 0) (scenario : List ℕ) (vs : List Varied) where
  -- there is no reply for this fault, or the combination with this number has no text
  abbrev pub HasNoReply : ℕ → SweepFault → Type 0
  HasNoReply number e = Refuses e ⊎ ((t : TextError) × HasNoText scenario vs (words_at vs number) t × (e ≡ faults.fault_of t))

  -- so the combination has no line. Memory may be wanting for any
  abbrev pub HasNoRow : ℕ → SweepFault → Type 0
  HasNoRow = faults.HasNoRow HasNoReply

  -- one of a part's combinations has none, or memory is wanting
  abbrev pub HasCause : Part → SweepFault → Type 0
  HasCause = faults.HasCause HasNoReply (combinations vs)

module _ {W : Type 0} (written : W → Option (List ℕ)) (has_failed : W → Bool) (Replies : List ℕ → List ℕ → ℕ → Type 0) (Refuses : SweepFault → Type 0)
    (scenario : List ℕ) (vs : List Varied) (part : Part) where
  -- lines of a part's combinations from a place on were written, the last of them maybe not to its end
  abbrev pub WasBegun : ℕ → W → W → Type 0
  WasBegun =
      sweeps.WasBegun written has_failed (combinations vs) (IsReplyTo Replies scenario vs) (told_line vs) (HasNoReply Refuses scenario vs) part

  -- the line of each of the part's combinations was written, in their order; or a front of these lines, where the sweep ended before
  abbrev pub WasSwept : W → W → Result Counts SweepFault → Type 0
  WasSwept =
      sweeps.WasSwept written has_failed (combinations vs) (IsReplyTo Replies scenario vs) (told_line vs) (HasNoReply Refuses scenario vs) part
