use Rattle.std.proofs.Common.{◌≡◌, length, take}
use Rattle.lf_sim.specs.Effects.{AreCrashes}
use Rattle.lf_sim.proofs.effects.crash_steps.Given as goal

-- what the faults so far do
abbrev pub invariant-loop-fault : goal.invariant-loop-fault
invariant-loop-fault l = record { long : length l.steps ≡ 8; filled : AreCrashes (take l.fault-index l.fault-items) l.steps }
