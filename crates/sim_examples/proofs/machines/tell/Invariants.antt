use Rattle.std.proofs.Common.{◌≡◌, drop}
use Rattle.sim_examples.specs.Samples.{told}
use Rattle.sim_examples.proofs.machines.tell.Given as goal

-- the letters from here on make of it what all make of the first
abbrev pub invariant-loop-letter : goal.invariant-loop-letter
invariant-loop-letter l = told l.initial.state l.inbox ≡ told l.state (drop l.letter-index l.inbox)
