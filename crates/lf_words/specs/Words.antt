-- What words ask for.
use Rattle.std.specs.Prelude.{◌≡◌, ◌≤◌, ◌⊎◌, ◌&&◌, ◌||◌, ⊤, Bool, true, false, not, ℕ, List, [], ◌∷◌, Option, Some, None, is_none, IsSomeAnd, MatchResult}
use Rattle.std.specs.Prelude.{Result, codes}
use Rattle.std.specs.Option.{option_map}
use Rattle.std.specs.Str.{bytes_eq}
use Rattle.std.specs.Str.Parse.{IsNumeral, digits_value, without_leading_plus}
use Rattle.clap.specs.declared.error.kind.ErrorKind.{ErrorKind}
use Rattle.clap.specs.Words.{Kinds, Row, Text, fault_of, first_of, subcommand_of}
use Rattle.lf_words.specs.Commands.{program}
use Rattle.lf_words.specs.Statuses.{status_of}
use Rattle.lf_words.specs.declared.types.Asked.{Asked}
use Rattle.lf_words.specs.declared.types.Asked.TheVariants as asked
use Rattle.lf_words.specs.declared.types.Shown.{Shown}
use Rattle.lf_words.specs.declared.types.Shown.TheVariants as shown
use Rattle.lf_words.specs.declared.unasked.Unasked.{Unasked}
use Rattle.lf_words.specs.declared.unasked.Unasked.TheVariants as unasked

-- the texts are among the words, in their order
abbrev pub IsPartOf : List Text → List Text → Type 0
IsPartOf [] words = ⊤
IsPartOf (text ∷ texts) [] = ⊥
IsPartOf (text ∷ texts) (word ∷ words) = ((text ≡ word) × IsPartOf texts words) ⊎ IsPartOf (text ∷ texts) words

-- the file of the scenario, or of the protocol
abbrev pub file_of : Asked → Text
file_of (asked.Search file tree all workers quiet protocol) = file.bytes.items
file_of (asked.Run file faults shown delays protocol) = file.bytes.items
file_of (asked.Draw file faults delays protocol) = file.bytes.items
file_of (asked.Check file tree quiet protocol) = file.bytes.items
file_of (asked.Answer file quiet every_delay protocol) = file.bytes.items
file_of (asked.Why file quiet protocol) = file.bytes.items
file_of (asked.Protocol file) = file.bytes.items

-- the command, and what it requires
abbrev pub texts_of : Asked → List Text
texts_of (asked.Search file tree all workers quiet protocol) = codes "search" ∷ file.bytes.items ∷ []
texts_of (asked.Run file faults shown delays protocol) = codes "run" ∷ file.bytes.items ∷ faults.bytes.items ∷ []
texts_of (asked.Draw file faults delays protocol) = codes "draw" ∷ file.bytes.items ∷ faults.bytes.items ∷ []
texts_of (asked.Check file tree quiet protocol) = codes "check" ∷ file.bytes.items ∷ tree.bytes.items ∷ []
texts_of (asked.Answer file quiet every_delay protocol) = codes "answer" ∷ file.bytes.items ∷ []
texts_of (asked.Why file quiet protocol) = codes "why" ∷ file.bytes.items ∷ []
texts_of (asked.Protocol file) = codes "protocol" ∷ file.bytes.items ∷ []

-- the file for a certificate that is to be written
abbrev pub written_to : Asked → Option Text
written_to (asked.Search file tree all workers quiet protocol) = option_map (λ t. t.bytes.items) tree
written_to (asked.Run file faults shown delays protocol) = None
written_to (asked.Draw file faults delays protocol) = None
written_to (asked.Check file tree quiet protocol) = None
written_to (asked.Answer file quiet every_delay protocol) = None
written_to (asked.Why file quiet protocol) = None
written_to (asked.Protocol file) = None

-- all least sets are to be told
abbrev pub wants_all : Asked → Bool
wants_all (asked.Search file tree all workers quiet protocol) = all
wants_all (asked.Run file faults shown delays protocol) = false
wants_all (asked.Draw file faults delays protocol) = false
wants_all (asked.Check file tree quiet protocol) = false
wants_all (asked.Answer file quiet every_delay protocol) = false
wants_all (asked.Why file quiet protocol) = false
wants_all (asked.Protocol file) = false

-- how many workers are to do it
abbrev pub workers_of : Asked → ℕ
workers_of (asked.Search file tree all workers quiet protocol) = workers
workers_of (asked.Run file faults shown delays protocol) = 1
workers_of (asked.Draw file faults delays protocol) = 1
workers_of (asked.Check file tree quiet protocol) = 1
workers_of (asked.Answer file quiet every_delay protocol) = 1
workers_of (asked.Why file quiet protocol) = 1
workers_of (asked.Protocol file) = 1

-- nothing is to be told on the way
abbrev pub is_quiet : Asked → Bool
is_quiet (asked.Search file tree all workers quiet protocol) = quiet
is_quiet (asked.Run file faults shown delays protocol) = false
is_quiet (asked.Draw file faults delays protocol) = false
is_quiet (asked.Check file tree quiet protocol) = quiet
is_quiet (asked.Answer file quiet every_delay protocol) = quiet
is_quiet (asked.Why file quiet protocol) = quiet
is_quiet (asked.Protocol file) = false

-- the file of the protocol that the scenario may name besides the shipped ones
abbrev pub protocol_file : Asked → Option Text
protocol_file (asked.Search file tree all workers quiet protocol) = option_map (λ t. t.bytes.items) protocol
protocol_file (asked.Run file faults shown delays protocol) = option_map (λ t. t.bytes.items) protocol
protocol_file (asked.Draw file faults delays protocol) = option_map (λ t. t.bytes.items) protocol
protocol_file (asked.Check file tree quiet protocol) = option_map (λ t. t.bytes.items) protocol
protocol_file (asked.Answer file quiet every_delay protocol) = option_map (λ t. t.bytes.items) protocol
protocol_file (asked.Why file quiet protocol) = option_map (λ t. t.bytes.items) protocol
protocol_file (asked.Protocol file) = None

-- what is to be told of a run
abbrev pub shown_of : Asked → Shown
shown_of (asked.Search file tree all workers quiet protocol) = shown.Whole
shown_of (asked.Run file faults shown delays protocol) = shown
shown_of (asked.Draw file faults delays protocol) = shown.Whole
shown_of (asked.Check file tree quiet protocol) = shown.Whole
shown_of (asked.Answer file quiet every_delay protocol) = shown.Whole
shown_of (asked.Why file quiet protocol) = shown.Whole
shown_of (asked.Protocol file) = shown.Whole

-- each note takes whatever its link may take
abbrev pub is_over_every_delay : Asked → Bool
is_over_every_delay (asked.Search file tree all workers quiet protocol) = false
is_over_every_delay (asked.Run file faults shown delays protocol) = false
is_over_every_delay (asked.Draw file faults delays protocol) = false
is_over_every_delay (asked.Check file tree quiet protocol) = false
is_over_every_delay (asked.Answer file quiet every_delay protocol) = every_delay
is_over_every_delay (asked.Why file quiet protocol) = false
is_over_every_delay (asked.Protocol file) = false

-- the arrivals of notes that are late in a run, as they were written
abbrev pub delays_of : Asked → Option Text
delays_of (asked.Search file tree all workers quiet protocol) = None
delays_of (asked.Run file faults shown delays protocol) = option_map (λ t. t.bytes.items) delays
delays_of (asked.Draw file faults delays protocol) = option_map (λ t. t.bytes.items) delays
delays_of (asked.Check file tree quiet protocol) = None
delays_of (asked.Answer file quiet every_delay protocol) = None
delays_of (asked.Why file quiet protocol) = None
delays_of (asked.Protocol file) = None

-- the rules that were taken are to be told
abbrev pub are_rules : Shown → Bool
are_rules shown.Whole = false
are_rules shown.Rules = true
are_rules shown.Changes = false
are_rules shown.Json = false
are_rules (shown.Beside other) = false

-- just these words are asked for, and no option
pub record IsPlainly (words : List Text) (a : Asked) : Type 0 where
  pub texts : texts_of a ≡ words
  pub unwritten : written_to a ≡ None
  pub one : wants_all a ≡ false
  pub alone : workers_of a ≡ 1
  pub told : is_quiet a ≡ false
  pub shipped : protocol_file a ≡ None
  pub short : shown_of a ≡ shown.Whole
  pub undelayed : delays_of a ≡ None
  pub drawn : is_over_every_delay a ≡ false

-- the file is standard input
abbrev pub is_input : Text → Bool
is_input file = bytes_eq file (codes "-")

-- two texts are to be read from standard input
abbrev pub shares_input : Asked → Bool
shares_input (asked.Search file tree all workers quiet protocol) = false
shares_input (asked.Run file faults shown delays protocol) = false
shares_input (asked.Draw file faults delays protocol) = false
shares_input (asked.Check file tree quiet protocol) = is_input file.bytes.items && is_input tree.bytes.items
shares_input (asked.Answer file quiet every_delay protocol) = false
shares_input (asked.Why file quiet protocol) = false
shares_input (asked.Protocol file) = false

-- a file has this name
abbrev pub has_name : Text → Option Text → Bool
has_name name None = false
has_name name (Some file) = bytes_eq file name

-- the certificate would be written into the file of the scenario or of the protocol, by the same name. `-` is standard input for a
-- scenario, and elsewhere a file of that name
abbrev pub overwrites : Asked → Bool
overwrites (asked.Search file None all workers quiet protocol) = false
overwrites (asked.Search file (Some tree) all workers quiet protocol) =
    (not (is_input file.bytes.items) && bytes_eq file.bytes.items tree.bytes.items)
    || has_name tree.bytes.items (option_map (λ t. t.bytes.items) protocol)
overwrites (asked.Run file faults shown delays protocol) = false
overwrites (asked.Draw file faults delays protocol) = false
overwrites (asked.Check file tree quiet protocol) = false
overwrites (asked.Answer file quiet every_delay protocol) = false
overwrites (asked.Why file quiet protocol) = false
overwrites (asked.Protocol file) = false

-- rules are to be told, and there is no protocol file that has some
abbrev pub lacks_protocol : Asked → Bool
lacks_protocol a = are_rules (shown_of a) && is_none (protocol_file a)

-- what is asked for can be done
pub record CanBeDone (a : Asked) : Type 0 where
  pub apart : shares_input a ≡ false
  pub kept : overwrites a ≡ false
  pub ruled : lacks_protocol a ≡ false

-- what `clap` has of a flag, which is on where it is among the words
abbrev pub is_set : Option Text → Bool
is_set None = false
is_set (Some text) = bytes_eq text (codes "true")

-- so many workers may be asked for
abbrev pub IsWorkers : ℕ → Type 0
IsWorkers n = (1 ≤ n) × (n ≤ 32)

-- what `clap` has of the workers names so many: a whole number, which may have a plus before it; where it has nothing, one
abbrev pub AreNamed : Option Text → ℕ → Type 0
AreNamed None n = n ≡ 1
AreNamed (Some text) n =
    IsNumeral 10 (without_leading_plus text) × (digits_value 10 (without_leading_plus text) ≡ n) × IsWorkers n

-- what `clap` has of --rules, --changes, --json and --beside
abbrev pub Flags : Type 0
Flags = Bool × Bool × Bool × Option Text

abbrev pub shown_flags : List Row → Flags
shown_flags rows = (
  is_set (first_of (codes "rules") rows),
  is_set (first_of (codes "changes") rows),
  is_set (first_of (codes "json") rows),
  first_of (codes "beside") rows,
)

-- by these this is told of a run: one of them at most is there
abbrev pub flags_of : Shown → Flags
flags_of shown.Whole = (false, false, false, None)
flags_of shown.Rules = (true, false, false, None)
flags_of shown.Changes = (false, true, false, None)
flags_of shown.Json = (false, false, true, None)
flags_of (shown.Beside other) = (false, false, false, Some other.bytes.items)

-- the same of what may be nothing, where nothing is told by these
abbrev pub IsShownBy : Flags → Option Shown → Type 0
IsShownBy flags (Some told) = flags ≡ flags_of told
IsShownBy flags None = (told : Shown) → flags ≡ flags_of told → ⊥

-- the command of this name with these matches asks for this
abbrev pub IsMatched : Text → List Row → Asked → Type 0
IsMatched name rows (asked.Search file tree all workers quiet protocol) = (name ≡ codes "search") × (first_of (codes "file") rows ≡ Some file.bytes.items)
    × (first_of (codes "tree") rows ≡ option_map (λ t. t.bytes.items) tree) × (is_set (first_of (codes "all") rows) ≡ all)
    × AreNamed (first_of (codes "workers") rows) workers × (is_set (first_of (codes "quiet") rows) ≡ quiet)
    × (first_of (codes "protocol") rows ≡ option_map (λ t. t.bytes.items) protocol)
IsMatched name rows (asked.Run file faults shown delays protocol) = (name ≡ codes "run") × (first_of (codes "file") rows ≡ Some file.bytes.items)
    × (first_of (codes "faults") rows ≡ Some faults.bytes.items) × (shown_flags rows ≡ flags_of shown)
    × (first_of (codes "delays") rows ≡ option_map (λ t. t.bytes.items) delays)
    × (first_of (codes "protocol") rows ≡ option_map (λ t. t.bytes.items) protocol)
IsMatched name rows (asked.Draw file faults delays protocol) = (name ≡ codes "draw") × (first_of (codes "file") rows ≡ Some file.bytes.items)
    × (first_of (codes "faults") rows ≡ Some faults.bytes.items)
    × (first_of (codes "delays") rows ≡ option_map (λ t. t.bytes.items) delays)
    × (first_of (codes "protocol") rows ≡ option_map (λ t. t.bytes.items) protocol)
IsMatched name rows (asked.Check file tree quiet protocol) = (name ≡ codes "check") × (first_of (codes "file") rows ≡ Some file.bytes.items)
    × (first_of (codes "tree") rows ≡ Some tree.bytes.items) × (is_set (first_of (codes "quiet") rows) ≡ quiet)
    × (first_of (codes "protocol") rows ≡ option_map (λ t. t.bytes.items) protocol)
IsMatched name rows (asked.Answer file quiet every_delay protocol) = (name ≡ codes "answer") × (first_of (codes "file") rows ≡ Some file.bytes.items)
    × (is_set (first_of (codes "quiet") rows) ≡ quiet) × (is_set (first_of (codes "every-delay") rows) ≡ every_delay)
    × (first_of (codes "protocol") rows ≡ option_map (λ t. t.bytes.items) protocol)
IsMatched name rows (asked.Why file quiet protocol) = (name ≡ codes "why") × (first_of (codes "file") rows ≡ Some file.bytes.items)
    × (is_set (first_of (codes "quiet") rows) ≡ quiet) × (first_of (codes "protocol") rows ≡ option_map (λ t. t.bytes.items) protocol)
IsMatched name rows (asked.Protocol file) = (name ≡ codes "protocol") × (first_of (codes "file") rows ≡ Some file.bytes.items)

-- it asks for this, and of words that are there
abbrev pub IsAskedBy : List Text → Text → List Row → Asked → Type 0
IsAskedBy words name rows a = IsMatched name rows a × IsPartOf (texts_of a) words

-- the same of a command that may be missing
abbrev pub IsAskedIn : List Text → Option (Text × List Row) → Asked → Type 0
IsAskedIn words command a = IsSomeAnd command (λ p. IsAskedBy words p.0 p.1 a)

-- `clap` takes the words, and the command that they name asks for this
abbrev pub Asks : List Text → Asked → Type 0
Asks words a = (fault_of program words ≡ []) × IsAskedIn words (subcommand_of program words) a

-- one of the kinds has this status
abbrev pub HasStatus : Kinds → ℕ → Type 0
HasStatus [] n = ⊥
HasStatus (kind ∷ kinds) n = (n ≡ status_of kind) ⊎ HasStatus kinds n

-- something with the property, or nothing where nothing has it
abbrev pub IsAnswer : (Asked → Type 0) → Option Asked → Type 0
IsAnswer P (Some a) = P a
IsAnswer P None = (a : Asked) → P a → ⊥

-- a search is asked for, and by no number of workers that may be asked for
abbrev pub IsUncounted : Option (Text × List Row) → Type 0
IsUncounted command =
    IsSomeAnd command (λ p. (p.0 ≡ codes "search") × ((n : ℕ) → AreNamed (first_of (codes "workers") p.1) n → ⊥))

-- a refusal of `clap`'s of this kind is told like this
abbrev pub IsToldFor : ErrorKind → Unasked → Type 0
IsToldFor kind (unasked.Told text) = status_of kind ≡ 0
IsToldFor kind (unasked.Wrong text) = status_of kind ≡ 2
IsToldFor kind (unasked.Workers text) = ⊥
IsToldFor kind (unasked.Overwrites text) = ⊥
IsToldFor kind unasked.SharedInput = ⊥
IsToldFor kind unasked.Memory = ⊥

-- a command that asks for nothing is told like this
abbrev pub IsUnread : Option (Text × List Row) → Unasked → Type 0
IsUnread command (unasked.Told text) = ⊥
IsUnread command (unasked.Wrong text) = ¬ IsUncounted command
IsUnread command (unasked.Workers text) = IsUncounted command
IsUnread command (unasked.Overwrites text) = ⊥
IsUnread command unasked.SharedInput = ⊥
IsUnread command unasked.Memory = ⊥

-- what is asked for and can't be done is told like this. Memory may be wanting for it
abbrev pub IsBarred : Asked → Unasked → Type 0
IsBarred a (unasked.Told text) = ⊥
IsBarred a (unasked.Wrong text) = lacks_protocol a ≡ true
IsBarred a (unasked.Workers text) = ⊥
IsBarred a (unasked.Overwrites text) = overwrites a ≡ true
IsBarred a unasked.SharedInput = shares_input a ≡ true
IsBarred a unasked.Memory = ⊤

-- the number of workers is refused, unless memory is wanting for it
abbrev pub IsOfWorkers : Unasked → Type 0
IsOfWorkers (unasked.Told text) = ⊥
IsOfWorkers (unasked.Wrong text) = ⊥
IsOfWorkers (unasked.Workers text) = ⊤
IsOfWorkers (unasked.Overwrites text) = ⊥
IsOfWorkers unasked.SharedInput = ⊥
IsOfWorkers unasked.Memory = ⊤

-- a certificate that would overwrite what is read is refused, unless memory is wanting for it
abbrev pub IsOverwriting : Unasked → Type 0
IsOverwriting (unasked.Told text) = ⊥
IsOverwriting (unasked.Wrong text) = ⊥
IsOverwriting (unasked.Workers text) = ⊥
IsOverwriting (unasked.Overwrites text) = ⊤
IsOverwriting unasked.SharedInput = ⊥
IsOverwriting unasked.Memory = ⊤

-- why the words ask for nothing that can be done. `clap` refuses them so; or takes them and they ask for nothing, where they ask for a
-- search by no number of workers, or else; or they ask for the rules of no protocol, for two texts from standard input, or for a
-- certificate in place of the scenario or the protocol. Memory may be wanting for any words
abbrev pub IsRefusal : List Text → Unasked → Type 0
IsRefusal words (unasked.Told text) = HasStatus (fault_of program words) 0
IsRefusal words (unasked.Wrong text) =
    HasStatus (fault_of program words) 2
    ⊎ (((fault_of program words ≡ []) × ((a : Asked) → Asks words a → ⊥) × (¬ IsUncounted (subcommand_of program words)))
    ⊎ ((a : Asked) × Asks words a × (lacks_protocol a ≡ true)))
IsRefusal words (unasked.Workers text) = (fault_of program words ≡ []) × IsUncounted (subcommand_of program words)
IsRefusal words (unasked.Overwrites text) = (a : Asked) × Asks words a × (overwrites a ≡ true)
IsRefusal words unasked.SharedInput = (a : Asked) × Asks words a × (shares_input a ≡ true)
IsRefusal words unasked.Memory = ⊤

-- words ask for this, which can be done, or are refused for this
abbrev pub Answers : List Text → Result Asked Unasked → Type 0
Answers words r = MatchResult r (λ a. Asks words a × CanBeDone a) (IsRefusal words)
