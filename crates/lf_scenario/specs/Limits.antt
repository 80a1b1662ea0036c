-- What the text of a scenario may have at most, and what it leaves out.
use Rattle.std.specs.Prelude.{ℕ}

-- the bytes of the longest text
abbrev pub longest : ℕ
longest = 65536

-- the most atoms of a formula that is written as a list
abbrev pub most_listed : ℕ
most_listed = 512

-- how many sets of faults of one size the search may keep where the text doesn't say so
abbrev pub usual_sets : ℕ
usual_sets = 100000
