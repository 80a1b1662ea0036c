use Rattle.std.proofs.Common.{◌≡◌, ◌++◌, take, string_bytes}
use Rattle.lf_delays.specs.Delays.{arrive_lines}
use Rattle.lf_delays.proofs.delay.push_delays.Given as goal

-- the lines so far
abbrev pub invariant-delays : goal.invariant-delays
invariant-delays l = string_bytes l.text ≡ string_bytes l.initial.text ++ arrive_lines (take l.delay-index l.delays)
