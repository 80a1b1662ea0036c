use Rattle.std.proofs.Common.{drop}
use Rattle.reply_examples.specs.Floats.{AreExact}
use Rattle.reply_examples.proofs.floats.are_exact.Given as goal

-- if so is all that is still to come, so is all
abbrev pub invariant-each : goal.invariant-each
invariant-each l = AreExact (drop l.one-index l.varied) → AreExact l.varied
