-- What the bytes of a text are.
use Rattle.std.specs.Prelude.{ℕ, Bool, ◌||◌, ◌==◌}
use Rattle.std.specs.Char.{is_ascii_digit, is_ascii_alphabetic}
use Rattle.lf_grammar.specs.declared.bytes.Class.{Class}
use Rattle.lf_grammar.specs.declared.bytes.Class.TheVariants as classes

-- a space, a tab, a line feed or a carriage return
abbrev pub is_blank : ℕ → Bool
is_blank b = b == 32 || (b == 9 || (b == 10 || b == 13))

abbrev pub is_digit : ℕ → Bool
is_digit b = is_ascii_digit b

-- a letter or _
abbrev pub is_letter : ℕ → Bool
is_letter b = is_ascii_alphabetic b || b == 95

-- what a word goes on with
abbrev pub is_of_word : ℕ → Bool
is_of_word b = is_letter b || is_digit b

abbrev pub has : Class → ℕ → Bool
has classes.Digit b = is_digit b
has classes.OfWord b = is_of_word b
