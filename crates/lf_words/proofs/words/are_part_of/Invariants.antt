use Rattle.std.proofs.Common.{◌↔◌, ◌≤◌, drop, map, length}
use Rattle.std.specs.String.{string_bytes}
use Rattle.lf_words.specs.Words.{IsPartOf}
use Rattle.lf_words.proofs.words.are_part_of.Given as goal

abbrev pub invariant-loop-word : goal.invariant-loop-word
invariant-loop-word l = record {
  within : l.met ≤ length l.texts;
  same : IsPartOf (map (λ t. t.now) (drop l.met l.texts)) (map string_bytes (drop l.word-index l.words))
      ↔ IsPartOf (map (λ t. t.now) l.texts) (map string_bytes l.words);
}
