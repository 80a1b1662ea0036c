use Rattle.std.proofs.Common.{◌≡◌, take}
use Rattle.lf_outcome.proofs.equal.+same.Given as goal

abbrev pub invariant-same_parts-parts : goal.invariant-same_parts-parts
invariant-same_parts-parts g l = take l.i l.ones ≡ take l.i l.others
