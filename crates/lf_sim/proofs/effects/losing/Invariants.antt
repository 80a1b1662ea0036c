use Rattle.std.proofs.Common.{◌≡◌, length, take}
use Rattle.lf_sim.specs.Effects.{AreLosing}
use Rattle.lf_sim.proofs.effects.losing.Given as goal

-- what the faults so far do
abbrev pub invariant-loop-fault : goal.invariant-loop-fault
invariant-loop-fault l = record { long : length l.losing ≡ 64; filled : AreLosing (take l.fault-index l.fault-items) l.losing }
