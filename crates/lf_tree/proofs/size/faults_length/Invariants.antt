use Rattle.std.proofs.Common.{◌≡◌, min, take}
use Rattle.lf_tree.specs.Texts.{quoted}
use Rattle.lf_tree.proofs.LengthLemmas.{items_length}
use Rattle.lf_tree.proofs.size.faults_length.Given as goal

-- the length of the faults so far
abbrev pub invariant-faults : goal.invariant-faults
invariant-faults l = l.items ≡ min (items_length quoted (take l.fault-index l.faults)) 16777217
