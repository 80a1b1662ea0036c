-- What a scenario may have at most.
use Rattle.std.specs.Prelude.{ℕ}

-- how deep its formula may be
abbrev pub deepest : ℕ
deepest = 8

-- the most atoms of its formula
abbrev pub most_atoms : ℕ
most_atoms = 4096

-- the most sets of faults of one size that it may let the search keep
abbrev pub most_sets : ℕ
most_sets = 1000000
