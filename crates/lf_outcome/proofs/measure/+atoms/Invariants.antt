use Rattle.std.proofs.Common.{◌≡◌, min, take, map, sum}
use Rattle.lf_outcome.specs.Measures.{atoms_of}
use Rattle.lf_outcome.specs.Unfolding.{unfolded}
use Rattle.lf_outcome.proofs.measure.+atoms.Given as goal

abbrev pub invariant-all_atoms-parts : goal.invariant-all_atoms-parts
invariant-all_atoms-parts g l = l.count ≡ min (sum (map (λ part. atoms_of (unfolded part)) (take l.part-index l.parts))) 4294967295
