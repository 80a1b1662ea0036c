use Rattle.std.proofs.Common.{drop, map, string_bytes}
use Rattle.reply_examples.specs.Floats.{ArePlain}
use Rattle.reply_examples.proofs.floats.are_plain.Given as goal

-- if the words still to come are plain, all are
abbrev pub invariant-words : goal.invariant-words
invariant-words l = ArePlain (map string_bytes (drop l.word-index l.words)) → ArePlain (map string_bytes l.words)
