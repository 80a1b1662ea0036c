-- The lines of questions, by their numbers.
use Rattle.std.specs.Prelude.{◌≡◌, ℕ, ◌+◌, ◌<◌, List, [], ◌∷◌, ◌++◌, length}
use Rattle.lf_sweep.specs.declared.part.Part.{Part}
use Rattle.lf_sweep.specs.Parts.{number_at}
use Rattle.lf_sweep.specs.declared.counts.Counts.{Counts}
use Rattle.lf_sweep.specs.declared.lines.Lines.{Lines}
use Rattle.lf_sweep.specs.declared.questions.Line.{Line}
use Rattle.lf_sweep.specs.Counts.{Told, counts_of, kind_of}

-- a part has so many questions or more
abbrev pub AreInside : ℕ → Part → ℕ → Type 0
AreInside count part places = (place : ℕ) → place < places → number_at part place < count

module _ (count : ℕ) (IsReply : ℕ → Told → Type 0) where
  -- there is a question with this number, from 0, and the reply is one to it
  pub record IsReplyAt (number : ℕ) (told : Told) : Type 0 where
    pub inside : number < count
    pub replied : IsReply number told

  -- the replies are those to a part's questions at this place and the following
  abbrev pub AreReplies : Part → ℕ → List Told → Type 0
  AreReplies part place [] = Unit {0}
  AreReplies part place (told ∷ more) = IsReplyAt (number_at part place) told × AreReplies part (place + 1) more

module _ (line : ℕ → Told → List ℕ) where
  -- the lines of a part's questions from a place on, by their replies, one behind the other
  abbrev pub told_lines : Part → ℕ → List Told → List ℕ
  told_lines part place [] = []
  told_lines part place (told ∷ more) = line (number_at part place) told ++ told_lines part (place + 1) more

-- one line is that of the question with this number, by a reply to it, and the kind is that of the reply
abbrev pub IsLineAt : (ℕ → Told → Type 0) → (ℕ → Told → List ℕ) → ℕ → Line → Type 0
IsLineAt IsReply line number one =
    (told : Told) × IsReply number told × (one.bytes.items ≡ line number told) × (one.kind ≡ kind_of told)

module _ (count : ℕ) (IsReply : ℕ → Told → Type 0) (line : ℕ → Told → List ℕ) where
  -- the replies are those to a part's questions from a place on, and the bytes are their lines
  pub record AreLines (part : Part) (place : ℕ) (replies : List Told) (bytes : List ℕ) : Type 0 where
    pub rows : AreReplies count IsReply part place replies
    pub together : bytes ≡ told_lines line part place replies

  -- these are their counts, and there are so many
  abbrev pub AreToldAt : Part → ℕ → ℕ → List ℕ → Counts → Type 0
  AreToldAt part place some bytes counts =
      (replies : List Told) × AreLines part place replies bytes × (length replies ≡ some) × (counts ≡ counts_of replies)

  -- lines, with their counts, are those of a part's questions from a place on, of so many
  abbrev pub AreLinesAt : Part → ℕ → ℕ → Lines → Type 0
  AreLinesAt part place some lines = AreToldAt part place some lines.bytes.items lines.counts
