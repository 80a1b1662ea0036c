use Rattle.std.proofs.Common.{◌≡◌, take}
use Rattle.lf_delays.specs.Delays.{delayed}
use Rattle.lf_delays.proofs.reading.arrivals_of.Given as goal

-- the delays so far are put
abbrev pub invariant-delays : goal.invariant-delays
invariant-delays l = l.arrivals ≡ delayed l.network (take l.delay-index l.delays)
