use Rattle.std.proofs.Common.{IfSome, Contains}
use Rattle.lf_words.proofs.near.nearest.Given as goal

abbrev pub invariant-loop-name : goal.invariant-loop-name
invariant-loop-name l = IfSome l.found (λ name. Contains l.names name)
