-- The lines of combinations.
use Rattle.std.specs.Prelude.{ℕ, ◌-◌, ◌==◌, if◌then◌else◌, List, [], ◌∷◌, ◌++◌, length, map, take}

-- words, each with a tab (9) behind it
abbrev pub cells : List (List ℕ) → List ℕ
cells [] = []
cells (word ∷ words) = word ++ 9 ∷ cells words

-- a tab (9) in place of a line feed (10)
abbrev pub tab_for : ℕ → ℕ
tab_for byte = if byte == 10 then 9 else byte

-- the lines of a reply as one: each line feed but the last is a tab
abbrev pub tabbed : List ℕ → List ℕ
tabbed reply = map tab_for (take (length reply - 1) reply) ++ 10 ∷ []

-- the line of a combination: its words, and the reply
abbrev pub line_of : List (List ℕ) → List ℕ → List ℕ
line_of words reply = cells words ++ tabbed reply
