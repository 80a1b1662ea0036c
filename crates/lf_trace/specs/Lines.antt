-- Lines of text.
use Rattle.std.specs.Prelude.{ℕ, List, ◌++◌, codes}

-- a line feed ends each line
abbrev pub line : List ℕ → List ℕ
line words = words ++ codes "\n"
