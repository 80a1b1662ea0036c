-- What the words behind `doubt` ask for.
use Rattle.std.specs.Prelude.{◌≡◌, ◌≤◌, ⊤, ℕ, List, Option, Some, None, Result, codes, string_bytes}
use Rattle.std.specs.Option.{option_map}
use Rattle.clap.specs.Words.{Row, Text, first_of}
use Rattle.lf_sweep_words.specs.Words.{AnswersBy, AreNamed, AsksBy, IsNumber, IsPart, is_set}
use Rattle.lf_sweep_words.specs.declared.unasked.SweepUnasked.{SweepUnasked}
use Rattle.lf_doubt_words.specs.Command.{doubt}
use Rattle.lf_doubt_words.specs.declared.types.DoubtAsked.{DoubtAsked}

-- the text is a whole number of 1 to 86400, which may have a plus before it
abbrev pub IsSeconds : Text → ℕ → Type 0
IsSeconds text n = IsNumber text n × (1 ≤ n) × (n ≤ 86400)

-- what `clap` has of --seconds names so many; where it has nothing, none are named
abbrev pub AreSeconds : Option Text → Option ℕ → Type 0
AreSeconds None None = ⊤
AreSeconds None (Some n) = ⊥
AreSeconds (Some text) None = ⊥
AreSeconds (Some text) (Some n) = IsSeconds text n

-- these matches ask for this
pub record IsMatched (rows : List Row) (a : DoubtAsked) : Type 0 where
  pub file : first_of (codes "file") rows ≡ Some (string_bytes a.file)
  pub protocol : first_of (codes "protocol") rows ≡ option_map (λ name. string_bytes name) a.protocol
  pub deep : a.deep ≡ is_set (first_of (codes "deep") rows)
  pub seconds : AreSeconds (first_of (codes "seconds") rows) a.seconds
  pub workers : AreNamed (first_of (codes "workers") rows) a.workers
  pub part : IsPart (first_of (codes "part") rows) a.part
  pub json : a.json ≡ is_set (first_of (codes "json") rows)
  pub quiet : a.quiet ≡ is_set (first_of (codes "quiet") rows)

-- the words behind `doubt` ask for this
abbrev pub Asks : List Text → DoubtAsked → Type 0
Asks words a = AsksBy doubt IsMatched words a

-- they ask for this, or are refused for this
abbrev pub Answers : List Text → Result DoubtAsked SweepUnasked → Type 0
Answers words r = AnswersBy doubt IsMatched words r
