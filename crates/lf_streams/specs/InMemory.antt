-- Files in memory, for tests.
use Rattle.std.specs.Prelude.{ℕ, List, [], ◌∷◌, Option, None, Some, string_bytes, if◌then◌else◌}
use Rattle.std.specs.Option.{option_map}
use Rattle.std.specs.Str.{bytes_eq}
use Rattle.lf_streams.specs.declared.in_memory.Held.{Held}
use Rattle.lf_streams.specs.declared.in_memory.Taken.{Taken}
use Rattle.lf_streams.specs.declared.in_memory.Written.{Written}

-- what the first file of this name has
abbrev pub file_in : List Held → List ℕ → Option (List ℕ)
file_in [] name = None
file_in (file ∷ files) name = if bytes_eq (string_bytes file.name) name then Some file.bytes.items else file_in files name

-- the same, or what standard input has
abbrev pub held_in : List Held → List ℕ → Option (List ℕ) → Option (List ℕ)
held_in files input None = Some input
held_in files input (Some name) = file_in files name

-- what was read, and what was written
abbrev pub taken_of : Taken → Option (List ℕ) × ℕ
taken_of taken = (option_map string_bytes taken.name, taken.limit)

abbrev pub written_of : Written → Option (List ℕ) × List ℕ
written_of written = (option_map string_bytes written.name, written.bytes.items)
