-- What the words behind `sweep` ask for.
use Rattle.std.specs.Prelude.{◌≡◌, ◌≤◌, ◌⊎◌, ⊤, ℕ, nat_lt, Bool, false, List, [], ◌∷◌, ◌++◌, Option, Some, None, Result, MatchResult, codes, string_bytes}
use Rattle.std.specs.List.{list_any}
use Rattle.std.specs.Option.{option_map}
use Rattle.std.specs.Str.{bytes_eq}
use Rattle.std.specs.Str.Parse.{IsNumeral, digits_value, without_leading_plus}
use Rattle.clap.specs.declared.error.kind.ErrorKind.{ErrorKind}
use Rattle.clap.specs.Words.{App, Kinds, Row, Text, all_of, fault_of, first_of, matches_of}
use Rattle.lf_sweep.specs.declared.part.Part.{Part}
use Rattle.lf_sweep.specs.declared.plan.Plan.{Plan}
use Rattle.lf_sweep.specs.declared.varied.Place.{Place}
use Rattle.lf_sweep.specs.declared.varied.Place.TheVariants as places
use Rattle.lf_sweep.specs.declared.varied.Varied.{Varied}
use Rattle.lf_sweep.specs.Limits.{most_parts}
use Rattle.lf_sweep.specs.Varied.{IsCut, IsVaried}
use Rattle.lf_sweep_words.specs.Command.{sweep}
use Rattle.lf_sweep_words.specs.Statuses.{status_of}
use Rattle.lf_sweep_words.specs.declared.types.By.{By}
use Rattle.lf_sweep_words.specs.declared.types.By.TheVariants as by
use Rattle.lf_sweep_words.specs.declared.types.SweepAsked.{SweepAsked}
use Rattle.lf_sweep_words.specs.declared.unasked.SweepUnasked.{SweepUnasked}
use Rattle.lf_sweep_words.specs.declared.unasked.SweepUnasked.TheVariants as unasked

-- what `clap` has of a flag, which is on where it is among the words
abbrev pub is_set : Option Text → Bool
is_set None = false
is_set (Some text) = bytes_eq text (codes "true")

-- what `clap` has of --by says so: `answer` or `search`, and where it has nothing `answer` is meant
abbrev pub IsBy : Option Text → By → Type 0
IsBy None by.Answer = ⊤
IsBy None by.Search = ⊥
IsBy (Some text) by.Answer = text ≡ codes "answer"
IsBy (Some text) by.Search = text ≡ codes "search"

-- the text is a whole number, which may have a plus before it
abbrev pub IsNumber : Text → ℕ → Type 0
IsNumber text n = IsNumeral 10 (without_leading_plus text) × (digits_value 10 (without_leading_plus text) ≡ n)

-- what `clap` has of --workers names so many, of 1 to 32; where it has nothing, one
abbrev pub AreNamed : Option Text → ℕ → Type 0
AreNamed None n = n ≡ 1
AreNamed (Some text) n = IsNumber text n × (1 ≤ n) × (n ≤ 32)

-- the part with these numbers, I and N: I is one of 1 to N, and N at most 1000000
abbrev pub IsPartBy : Text → Text → Part → Type 0
IsPartBy which parts part = IsNumber which part.which × IsNumber parts part.parts × (1 ≤ part.which) × (part.which ≤ part.parts)
    × (part.parts ≤ most_parts)

-- what `clap` has of --part is I/N, with the first slash (47) between the two; where it has nothing, all combinations are meant
abbrev pub IsPart : Option Text → Part → Type 0
IsPart None part = (part.which ≡ 1) × (part.parts ≡ 1)
IsPart (Some text) part = (which : Text) × (parts : Text) × IsCut 47 text which parts × IsPartBy which parts part

-- the text has a control character: a byte below 32, as a tab or a line feed is
abbrev pub has_control : Text → Bool
has_control text = list_any (λ b. nat_lt b 32) text

-- a text of --vary says what varies, and has no control character
abbrev pub IsVariedBy : Text → Varied → Type 0
IsVariedBy text v = (has_control text ≡ false) × IsVaried text v

-- each of the texts does, in their order
abbrev pub AreVaried : List Text → List Varied → Type 0
AreVaried [] [] = ⊤
AreVaried [] (v ∷ vs) = ⊥
AreVaried (text ∷ texts) [] = ⊥
AreVaried (text ∷ texts) (v ∷ vs) = IsVariedBy text v × AreVaried texts vs

-- what `clap` has of --vary says what varies. A plan has nothing that varies twice or within something else that varies, and no more
-- combinations than there may be
abbrev pub IsPlanned : Option (List Text) → Plan → Type 0
IsPlanned None plan = ⊥
IsPlanned (Some texts) plan = AreVaried texts plan.varied.items

-- these matches ask for this
pub record IsMatched (rows : List Row) (a : SweepAsked) : Type 0 where
  pub file : first_of (codes "file") rows ≡ Some (string_bytes a.file)
  pub plan : IsPlanned (all_of (codes "vary") rows) a.plan
  pub by : IsBy (first_of (codes "by") rows) a.by
  pub workers : AreNamed (first_of (codes "workers") rows) a.workers
  pub part : IsPart (first_of (codes "part") rows) a.part
  pub json : a.json ≡ is_set (first_of (codes "json") rows)
  pub quiet : a.quiet ≡ is_set (first_of (codes "quiet") rows)
  pub protocol : first_of (codes "protocol") rows ≡ option_map (λ name. string_bytes name) a.protocol

-- `clap` takes the words behind a command, and its matches ask for this
abbrev pub AsksBy : {A : Type 0} → App → (List Row → A → Type 0) → List Text → A → Type 0
AsksBy app P words a = (fault_of app words ≡ []) × P (matches_of app words) a

-- one of the kinds has this status
abbrev pub HasStatus : Kinds → ℕ → Type 0
HasStatus [] n = ⊥
HasStatus (kind ∷ kinds) n = (n ≡ status_of kind) ⊎ HasStatus kinds n

-- why the words behind a command ask for nothing: `clap` answers them with help; or it refuses them, or takes them and its matches ask for
-- nothing. Memory may be wanting for any words
abbrev pub IsRefusalBy : {A : Type 0} → App → (List Row → A → Type 0) → List Text → SweepUnasked → Type 0
IsRefusalBy app P words (unasked.Told text) = HasStatus (fault_of app words) 0
IsRefusalBy {A} app P words (unasked.Wrong text) =
    HasStatus (fault_of app words) 2 ⊎ ((fault_of app words ≡ []) × ((a : A) → ¬ P (matches_of app words) a))
IsRefusalBy app P words unasked.Memory = ⊤

-- the words behind a command ask for this, or are refused for this
abbrev pub AnswersBy : {A : Type 0} → App → (List Row → A → Type 0) → List Text → Result A SweepUnasked → Type 0
AnswersBy app P words r = MatchResult r (AsksBy app P words) (IsRefusalBy app P words)

-- the words behind `sweep` ask for this
abbrev pub Asks : List Text → SweepAsked → Type 0
Asks words a = AsksBy sweep IsMatched words a

-- they ask for this, or are refused for this
abbrev pub Answers : List Text → Result SweepAsked SweepUnasked → Type 0
Answers words r = AnswersBy sweep IsMatched words r

-- a refusal of `clap`'s of this kind is told like this
abbrev pub IsToldFor : ErrorKind → SweepUnasked → Type 0
IsToldFor kind (unasked.Told text) = status_of kind ≡ 0
IsToldFor kind (unasked.Wrong text) = status_of kind ≡ 2
IsToldFor kind unasked.Memory = ⊥

-- it is told that the words are wrong, unless memory is wanting for it
abbrev pub IsWrong : SweepUnasked → Type 0
IsWrong (unasked.Told text) = ⊥
IsWrong (unasked.Wrong text) = ⊤
IsWrong unasked.Memory = ⊤

-- what nothing is, is told like this: that it is wrong only where nothing is it
abbrev pub IsNothing : {X : Type 0} → (X → Type 0) → SweepUnasked → Type 0
IsNothing P (unasked.Told text) = ⊥
IsNothing {X} P (unasked.Wrong text) = (x : X) → ¬ P x
IsNothing P unasked.Memory = ⊤

-- the name of what varies, as it is written before the =
abbrev pub written_name : Place → Text
written_name (places.Key name) = string_bytes name
written_name (places.Constant name) = codes "given." ++ string_bytes name
