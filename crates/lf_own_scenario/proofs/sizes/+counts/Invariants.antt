use Rattle.std.proofs.Common.{◌≡◌, map, min, sum, take}
use Rattle.lf_outcome.specs.Measures.{atoms_of}
use Rattle.lf_own_scenario.specs.Unfolding.{formula_at}
use Rattle.lf_own_scenario.proofs.sizes.+counts.Given as goal

abbrev pub invariant-atoms_of_parts-parts : goal.invariant-atoms_of_parts-parts
invariant-atoms_of_parts-parts l = l.count ≡ min (sum (map (λ part. atoms_of (formula_at l.scene 0 part 0)) (take l.part-index l.parts))) 4294967295
