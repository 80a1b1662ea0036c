use Rattle.std.proofs.Common.{◌+◌, ◌<◌, length, map, string_bytes, IsCharBoundary}
use denote.Text.{Utf8}
use denote.Shadow.{shadow}
use Rattle.lf_sweep.specs.Listed.{AreBefore, IsValue}
use Rattle.lf_sweep.proofs.listed.values_in.Given as goal

-- the values so far, and the first of the rest
abbrev pub invariant-values : goal.invariant-values
invariant-values l =
    shadow (Utf8 l.rest) × AreBefore (map string_bytes l.words.items) l.text l.rest × IsValue l.rest l.end × IsCharBoundary l.rest l.end
    × (l.end < length l.rest → IsCharBoundary l.rest (l.end + 1))

abbrev pub decreases-values : goal.decreases-values
decreases-values l = length l.rest
