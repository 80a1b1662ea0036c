use Rattle.std.proofs.Common.{◌≡◌, length}
use Rattle.lf_sweep.specs.Apart.{some_clash}
use Rattle.lf_sweep.proofs.apart.some_clash.Given as goal

-- those so far clash with none
abbrev pub invariant-each : goal.invariant-each
invariant-each l = some_clash l.nested l.rest ≡ some_clash l.nested l.varied

abbrev pub decreases-each : goal.decreases-each
decreases-each l = length l.rest
