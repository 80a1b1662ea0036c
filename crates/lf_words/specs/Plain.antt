-- Words of which nobody has to ask `clap`.
use Rattle.std.specs.Prelude.{◌==◌, ◌&&◌, ◌||◌, Bool, true, false, not, List, [], ◌∷◌, codes}
use Rattle.std.specs.Str.{bytes_eq}
use Rattle.clap.specs.Words.{Text}
use Rattle.lf_words.specs.Words.{is_input}

-- the word is `-`, which is 45, or doesn't begin with it
abbrev pub is_plain : Text → Bool
is_plain [] = true
is_plain (x ∷ []) = true
is_plain (x ∷ y ∷ rest) = not (x == 45)

-- the command takes two words, and these: `check` takes standard input for one of them at most
abbrev pub takes_two : Text → Text → Text → Bool
takes_two command one other =
    bytes_eq command (codes "run")
    || (bytes_eq command (codes "draw") || (bytes_eq command (codes "check") && not (is_input one && is_input other)))

-- the command takes one word
abbrev pub takes_one : Text → Bool
takes_one command =
    bytes_eq command (codes "search")
    || (bytes_eq command (codes "answer") || (bytes_eq command (codes "why") || bytes_eq command (codes "protocol")))

-- search FILE, answer FILE, why FILE, protocol FILE, run FILE FAULTS, draw FILE FAULTS, or check FILE TREE
abbrev pub is_plain_command : List Text → Bool
is_plain_command (command ∷ file ∷ []) = takes_one command && is_plain file
is_plain_command (command ∷ one ∷ other ∷ []) = takes_two command one other && (is_plain one && is_plain other)
is_plain_command _ = false

-- search FILE --tree FILE, with the same word for both: no standard input, which is `-`
abbrev pub is_overwriting : List Text → Bool
is_overwriting (command ∷ file ∷ name ∷ tree ∷ []) =
    (bytes_eq command (codes "search") && bytes_eq name (codes "--tree")) && ((is_plain file && not (is_input file)) && bytes_eq file tree)
is_overwriting _ = false

-- the first word asks for help
abbrev pub asks_help : List Text → Bool
asks_help [] = false
asks_help (word ∷ words) = bytes_eq word (codes "--help") || bytes_eq word (codes "-h")

-- the first word asks for the version
abbrev pub asks_version : List Text → Bool
asks_version [] = false
asks_version (word ∷ words) = bytes_eq word (codes "--version") || bytes_eq word (codes "-V")

-- the first word is no command, and is plain
abbrev pub is_unknown : List Text → Bool
is_unknown [] = false
is_unknown (word ∷ words) =
    is_plain word && (not (bytes_eq (codes "search") word) && (not (bytes_eq (codes "run") word)
    && (not (bytes_eq (codes "draw") word) && (not (bytes_eq (codes "check") word)
    && (not (bytes_eq (codes "answer") word) && (not (bytes_eq (codes "why") word) && not (bytes_eq (codes "protocol") word)))))))
