-- Plain words are taken as they stand.
use Rattle.std.proofs.Common.{◌≡◌, ◌==◌, ℕ, List, [], ◌∷◌, Some, None, refl, false, true, codes, option_map, Option}
use Rattle.std.specs.Prelude.{Bool}
use Rattle.std.proofs.lemmas.Bool.{not-true}
use Rattle.std.specs.Str.{bytes_eq}
use Rattle.clap.specs.Words.{Row, Text, fault_of, first_of, subcommand_of}
use Rattle.clap.specs.declared.error.kind.ErrorKind.TheVariants as kind
use Rattle.clap.specs.Lexer.{long_of, short_of, strip_byte}
use Rattle.clap.proofs.OnLiterals.{clap_on_literals}
use Rattle.lf_words.specs.Commands.{program}
use Rattle.lf_words.specs.Plain.{is_plain}
use Rattle.lf_words.specs.Words.{Flags, is_set, shown_flags}

-- what `clap` looks for in a word
pub record IsTaken (word : Text) : Type 0 where
  pub no_end : bytes_eq word (45 ∷ 45 ∷ []) ≡ false
  pub no_long : long_of word ≡ None
  pub no_short : short_of word ≡ None

not_stripped : (x : ℕ) (xs : List ℕ) → (x == 45) ≡ false → strip_byte 45 (x ∷ xs) ≡ None
not_stripped x xs other = rw (other) refl

taken_other : (x : ℕ) (xs : List ℕ) → (x == 45) ≡ false → IsTaken (x ∷ xs)
taken_other x xs other = record {
  no_end = rw (other) refl;
  no_long = rw (not_stripped x xs other) refl;
  no_short = rw (not_stripped x xs other) refl;
}

taken_one : (x : ℕ) (b : Bool) → (x == 45) ≡ b → IsTaken (x ∷ [])
taken_one x false other = taken_other x [] other
taken_one x true minus = record {
  no_end = rw (minus) refl;
  no_long = rw (minus) refl;
  no_short = rw (minus) refl;
}

pub is_taken : (word : Text) → is_plain word ≡ true → IsTaken word
is_taken [] plain = record { no_end = refl; no_long = refl; no_short = refl }
is_taken (x ∷ []) plain = taken_one x (x == 45) refl
is_taken (x ∷ y ∷ rest) plain = taken_other x (y ∷ rest) (not-true (x == 45) plain)

-- the file of a protocol
abbrev named_known : Text × List Row → Option Text
named_known p = first_of (codes "protocol") p.1

-- the arrivals of late notes
abbrev named_delays : Text × List Row → Option Text
named_delays p = first_of (codes "delays") p.1

-- a run's name, its file, its faults, its flags, its delays, and the file of a protocol
abbrev pub named_run : Text × List Row → Text × Option Text × Option Text × Flags × Option Text × Option Text
named_run p = (p.0, first_of (codes "file") p.1, first_of (codes "faults") p.1, shown_flags p.1, named_delays p, named_known p)

-- a command's name, its file, its faults, its delays, and the file of a protocol
abbrev pub named_draw : Text × List Row → Text × Option Text × Option Text × Option Text × Option Text
named_draw p = (p.0, first_of (codes "file") p.1, first_of (codes "faults") p.1, named_delays p, named_known p)

-- whether nothing is to be told on the way
abbrev named_quiet : Text × List Row → Bool
named_quiet p = is_set (first_of (codes "quiet") p.1)

-- a command's name and its file
abbrev pub named_alone : Text × List Row → Text × Option Text
named_alone p = (p.0, first_of (codes "file") p.1)

-- a command's name, its file, its flag, and the file of a protocol
abbrev pub named_one : Text × List Row → Text × Option Text × Bool × Option Text
named_one p = (p.0, first_of (codes "file") p.1, named_quiet p, named_known p)

-- the same of an answer, with the flag for every delay
abbrev pub named_answer : Text × List Row → Text × Option Text × Bool × Bool × Option Text
named_answer p = (p.0, first_of (codes "file") p.1, named_quiet p, is_set (first_of (codes "every-delay") p.1), named_known p)

-- the same of a check, with its tree
abbrev pub named_check : Text × List Row → Text × Option Text × Option Text × Bool × Option Text
named_check p = (p.0, first_of (codes "file") p.1, first_of (codes "tree") p.1, named_quiet p, named_known p)

-- the same of a search, with its tree, its flags and its workers
abbrev pub named_search : Text × List Row → Text × Option Text × Option Text × Bool × Option Text × Bool × Option Text
named_search p = (
  p.0,
  first_of (codes "file") p.1,
  first_of (codes "tree") p.1,
  is_set (first_of (codes "all") p.1),
  first_of (codes "workers") p.1,
  named_quiet p,
  named_known p,
)

pub search_fault : (file : Text) → IsTaken file → fault_of program (codes "search" ∷ file ∷ []) ≡ []
unfolding clap_on_literals
search_fault file taken = rw (taken.no_end, taken.no_long, taken.no_short) refl

pub search_names : (file : Text) → IsTaken file
    → option_map named_search (subcommand_of program (codes "search" ∷ file ∷ [])) ≡ Some (codes "search", Some file, None, false, None, false, None)
unfolding clap_on_literals
search_names file taken = rw (taken.no_end, taken.no_long, taken.no_short) refl

-- search FILE --tree TREE
pub written_fault : (file tree : Text) → IsTaken file → IsTaken tree → fault_of program (codes "search" ∷ file ∷ codes "--tree" ∷ tree ∷ []) ≡ []
unfolding clap_on_literals
written_fault file tree taken taken_too = rw (taken.no_end, taken.no_long, taken.no_short, taken_too.no_end, taken_too.no_long, taken_too.no_short) refl

pub written_names : (file tree : Text) → IsTaken file → IsTaken tree
    → option_map named_search (subcommand_of program (codes "search" ∷ file ∷ codes "--tree" ∷ tree ∷ []))
    ≡ Some (codes "search", Some file, Some tree, false, None, false, None)
unfolding clap_on_literals
written_names file tree taken taken_too = rw (taken.no_end, taken.no_long, taken.no_short, taken_too.no_end, taken_too.no_long, taken_too.no_short) refl

-- search FILE --workers N
pub counted_fault : (file number : Text) → IsTaken file → IsTaken number
    → fault_of program (codes "search" ∷ file ∷ codes "--workers" ∷ number ∷ []) ≡ []
unfolding clap_on_literals
counted_fault file number taken taken_too = rw (taken.no_end, taken.no_long, taken.no_short, taken_too.no_end, taken_too.no_long, taken_too.no_short) refl

pub counted_names : (file number : Text) → IsTaken file → IsTaken number
    → option_map named_search (subcommand_of program (codes "search" ∷ file ∷ codes "--workers" ∷ number ∷ []))
    ≡ Some (codes "search", Some file, None, false, Some number, false, None)
unfolding clap_on_literals
counted_names file number taken taken_too = rw (taken.no_end, taken.no_long, taken.no_short, taken_too.no_end, taken_too.no_long, taken_too.no_short) refl

pub run_fault : (file faults : Text) → IsTaken file → IsTaken faults → fault_of program (codes "run" ∷ file ∷ faults ∷ []) ≡ []
unfolding clap_on_literals
run_fault file faults taken taken_too = rw (taken.no_end, taken.no_long, taken.no_short, taken_too.no_end, taken_too.no_long, taken_too.no_short) refl

pub run_names : (file faults : Text) → IsTaken file → IsTaken faults
    → option_map named_run (subcommand_of program (codes "run" ∷ file ∷ faults ∷ []))
    ≡ Some (codes "run", Some file, Some faults, (false, false, false, None), None, None)
unfolding clap_on_literals
run_names file faults taken taken_too = rw (taken.no_end, taken.no_long, taken.no_short, taken_too.no_end, taken_too.no_long, taken_too.no_short) refl

pub draw_fault : (file faults : Text) → IsTaken file → IsTaken faults → fault_of program (codes "draw" ∷ file ∷ faults ∷ []) ≡ []
unfolding clap_on_literals
draw_fault file faults taken taken_too = rw (taken.no_end, taken.no_long, taken.no_short, taken_too.no_end, taken_too.no_long, taken_too.no_short) refl

pub draw_names : (file faults : Text) → IsTaken file → IsTaken faults
    → option_map named_draw (subcommand_of program (codes "draw" ∷ file ∷ faults ∷ [])) ≡ Some (codes "draw", Some file, Some faults, None, None)
unfolding clap_on_literals
draw_names file faults taken taken_too = rw (taken.no_end, taken.no_long, taken.no_short, taken_too.no_end, taken_too.no_long, taken_too.no_short) refl

pub check_fault : (file tree : Text) → IsTaken file → IsTaken tree → fault_of program (codes "check" ∷ file ∷ tree ∷ []) ≡ []
unfolding clap_on_literals
check_fault file tree taken taken_too = rw (taken.no_end, taken.no_long, taken.no_short, taken_too.no_end, taken_too.no_long, taken_too.no_short) refl

pub check_names : (file tree : Text) → IsTaken file → IsTaken tree
    → option_map named_check (subcommand_of program (codes "check" ∷ file ∷ tree ∷ []))
    ≡ Some (codes "check", Some file, Some tree, false, None)
unfolding clap_on_literals
check_names file tree taken taken_too = rw (taken.no_end, taken.no_long, taken.no_short, taken_too.no_end, taken_too.no_long, taken_too.no_short) refl

pub answer_fault : (file : Text) → IsTaken file → fault_of program (codes "answer" ∷ file ∷ []) ≡ []
unfolding clap_on_literals
answer_fault file taken = rw (taken.no_end, taken.no_long, taken.no_short) refl

pub answer_names : (file : Text) → IsTaken file
    → option_map named_answer (subcommand_of program (codes "answer" ∷ file ∷ [])) ≡ Some (codes "answer", Some file, false, false, None)
unfolding clap_on_literals
answer_names file taken = rw (taken.no_end, taken.no_long, taken.no_short) refl

pub why_fault : (file : Text) → IsTaken file → fault_of program (codes "why" ∷ file ∷ []) ≡ []
unfolding clap_on_literals
why_fault file taken = rw (taken.no_end, taken.no_long, taken.no_short) refl

pub why_names : (file : Text) → IsTaken file
    → option_map named_one (subcommand_of program (codes "why" ∷ file ∷ [])) ≡ Some (codes "why", Some file, false, None)
unfolding clap_on_literals
why_names file taken = rw (taken.no_end, taken.no_long, taken.no_short) refl

pub protocol_fault : (file : Text) → IsTaken file → fault_of program (codes "protocol" ∷ file ∷ []) ≡ []
unfolding clap_on_literals
protocol_fault file taken = rw (taken.no_end, taken.no_long, taken.no_short) refl

pub protocol_names : (file : Text) → IsTaken file
    → option_map named_alone (subcommand_of program (codes "protocol" ∷ file ∷ [])) ≡ Some (codes "protocol", Some file)
unfolding clap_on_literals
protocol_names file taken = rw (taken.no_end, taken.no_long, taken.no_short) refl

pub help_fault : (words : List Text) → fault_of program (codes "--help" ∷ words) ≡ kind.DisplayHelp ∷ []
unfolding clap_on_literals
help_fault words = refl

pub short_help_fault : (words : List Text) → fault_of program (codes "-h" ∷ words) ≡ kind.DisplayHelp ∷ []
unfolding clap_on_literals
short_help_fault words = refl

pub version_fault : (words : List Text) → fault_of program (codes "--version" ∷ words) ≡ kind.DisplayVersion ∷ []
unfolding clap_on_literals
version_fault words = refl

pub short_version_fault : (words : List Text) → fault_of program (codes "-V" ∷ words) ≡ kind.DisplayVersion ∷ []
unfolding clap_on_literals
short_version_fault words = refl

pub unknown_fault : (word : Text) (words : List Text) → IsTaken word → bytes_eq (codes "search") word ≡ false → bytes_eq (codes "run") word ≡ false
    → bytes_eq (codes "draw") word ≡ false → bytes_eq (codes "check") word ≡ false → bytes_eq (codes "answer") word ≡ false
    → bytes_eq (codes "why") word ≡ false → bytes_eq (codes "protocol") word ≡ false
    → fault_of program (word ∷ words) ≡ kind.UnknownArgument ∷ kind.InvalidSubcommand ∷ []
unfolding clap_on_literals
unknown_fault word words taken no_search no_run no_draw no_check no_answer no_why no_protocol =
    rw (no_search, no_run, no_draw, no_check, no_answer, no_why, no_protocol, taken.no_end, taken.no_long, taken.no_short) refl
