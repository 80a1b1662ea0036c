-- The values of what varies.
use Rattle.std.specs.Prelude.{ℕ, ◌+◌, ◌-◌, List, [], length, map, slice_index_or, string_bytes}
use Rattle.std.specs.Fmt.{decimal}
use Rattle.lf_sweep.specs.declared.words.Words.{Words}
use Rattle.lf_sweep.specs.declared.words.Words.TheVariants as words

-- the most values of one key
abbrev pub most_values : ℕ
most_values = 1000000

-- how many values there are
abbrev pub count_of : Words → ℕ
count_of (words.Numbers first last) = last + 1 - first
count_of (words.Listed listed) = length listed.items

-- the value at a place, from 0, as it is written
abbrev pub word_at : Words → ℕ → List ℕ
word_at (words.Numbers first last) d = decimal (first + d)
word_at (words.Listed listed) d = slice_index_or (map string_bytes listed.items) d []
