use Rattle.std.proofs.Common.{◌≡◌, ◌++◌, drop}
use Rattle.lf_why.specs.Sets.{without}
use Rattle.lf_why.proofs.without.without.Given as goal

-- the faults so far, and those still to come
abbrev pub invariant-later : goal.invariant-later
invariant-later l = l.rest ++ drop l.later l.items ≡ without l.set l.place
