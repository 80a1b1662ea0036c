use Rattle.std.proofs.Common.{take}
use Rattle.lf_delays.specs.Delays.{IsNew}
use Rattle.lf_delays.proofs.reading.is_new.Given as goal

-- none so far is of the slot
abbrev pub invariant-delays : goal.invariant-delays
invariant-delays l = IsNew (take l.other-index l.delays) l.delay
