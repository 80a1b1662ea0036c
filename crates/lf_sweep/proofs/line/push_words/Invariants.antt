use Rattle.std.proofs.Common.{◌≡◌, ◌++◌, drop, map, string_bytes}
use Rattle.lf_sweep.specs.Lines.{cells}
use Rattle.lf_sweep.proofs.line.push_words.Given as goal

-- what is written, and the words still to come
abbrev pub invariant-words : goal.invariant-words
invariant-words l =
    l.line.items ++ cells (map string_bytes (drop l.word-index l.words)) ≡ l.initial.line.items ++ cells (map string_bytes l.words)
