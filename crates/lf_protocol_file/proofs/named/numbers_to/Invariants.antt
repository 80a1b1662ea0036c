use Rattle.std.proofs.Common.{◌≡◌}
use Rattle.lf_protocol_file.specs.Named.{numbers_to}
use Rattle.lf_protocol_file.proofs.named.numbers_to.Given as goal

-- the numbers so far
abbrev pub invariant-loop-i : goal.invariant-loop-i
invariant-loop-i l = l.numbers ≡ numbers_to l.i
