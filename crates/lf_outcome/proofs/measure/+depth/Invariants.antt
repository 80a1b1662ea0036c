use Rattle.std.proofs.Common.{◌≡◌, min, max, take, map}
use Rattle.std.specs.List.{fold}
use Rattle.lf_outcome.specs.Measures.{depth_of}
use Rattle.lf_outcome.specs.Unfolding.{unfolded}
use Rattle.lf_outcome.proofs.measure.+depth.Given as goal

abbrev pub invariant-deepest-parts : goal.invariant-deepest-parts
invariant-deepest-parts g l = l.deepest ≡ min (fold max 0 (map (λ part. depth_of (unfolded part)) (take l.part-index l.parts))) 4294967295
