-- Words that ask for help.
use Rattle.std.specs.Prelude.{◌||◌, Bool, false, List, [], ◌∷◌, codes}
use Rattle.std.specs.Str.{bytes_eq}
use Rattle.clap.specs.Words.{Text}

-- the first word asks for help
abbrev pub asks_help : List Text → Bool
asks_help [] = false
asks_help (word ∷ words) = bytes_eq word (codes "--help") || bytes_eq word (codes "-h")
