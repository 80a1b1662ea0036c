use Rattle.std.proofs.Common.{◌≡◌, length, take}
use Rattle.lf_cone.specs.Places.{AreMarks}
use Rattle.lf_cone.proofs.marks.marked.Given as goal

abbrev pub invariant-loop-fault : goal.invariant-loop-fault
invariant-loop-fault l = record { long : length l.rows ≡ 480; marks : AreMarks (take l.fault-index l.faults) l.rows }
