use Rattle.std.proofs.Common.{◌≡◌, map, max, min, take}
use Rattle.std.specs.List.{fold}
use Rattle.lf_outcome.specs.Measures.{depth_of}
use Rattle.lf_own_scenario.specs.Unfolding.{formula_at}
use Rattle.lf_own_scenario.proofs.sizes.+depths.Given as goal

abbrev pub invariant-deepest-parts : goal.invariant-deepest-parts
invariant-deepest-parts l = l.deepest ≡ min (fold max 0 (map (λ part. depth_of (formula_at l.scene 0 part 0)) (take l.part-index l.parts))) 4294967295
