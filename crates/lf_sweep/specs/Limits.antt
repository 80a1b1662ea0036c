-- What a sweep may have at most.
use Rattle.std.specs.Prelude.{ℕ}

-- the combinations
abbrev pub most_combinations : ℕ
most_combinations = 1000000000

-- the parts
abbrev pub most_parts : ℕ
most_parts = 1000000

-- how deep the tables and lists of its scenario are read
abbrev pub deepest : ℕ
deepest = 80
