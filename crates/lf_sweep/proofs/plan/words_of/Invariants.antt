use Rattle.std.proofs.Common.{◌≡◌, ◌<◌, ◌++◌, drop, map, string_bytes}
use Rattle.lf_sweep.specs.Combinations.{combinations, words_at}
use Rattle.lf_sweep.proofs.plan.words_of.Given as goal

-- the values so far and those still to come, by what is left of the number
abbrev pub invariant-each : goal.invariant-each
invariant-each l =
    (map string_bytes l.words.items ++ words_at (drop l.one-index l.varied) l.left ≡ words_at l.varied l.number)
    × (l.below ≡ combinations (drop l.one-index l.varied)) × (l.left < l.below)
