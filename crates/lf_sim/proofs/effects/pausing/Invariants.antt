use Rattle.std.proofs.Common.{◌≡◌, length, take}
use Rattle.lf_sim.specs.Effects.{ArePausing}
use Rattle.lf_sim.proofs.effects.pausing.Given as goal

-- what the faults so far do
abbrev pub invariant-loop-fault : goal.invariant-loop-fault
invariant-loop-fault l = record { long : length l.pausing ≡ 8; filled : ArePausing (take l.fault-index l.fault-items) l.pausing }
