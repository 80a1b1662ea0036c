use Rattle.std.proofs.Common.{◌≡◌, ◌++◌, map, string_bytes}
use Rattle.std.specs.Char.{to_ascii_lowercase}
use Rattle.std.proofs.Math.Utf8.{encodes}
use Rattle.lf_naming.proofs.note.push_small.Given as goal

-- the letters so far
abbrev pub invariant-loop-letter : goal.invariant-loop-letter
invariant-loop-letter l = string_bytes l.text ≡ string_bytes l.initial.text ++ encodes (map to_ascii_lowercase l.yielded)
