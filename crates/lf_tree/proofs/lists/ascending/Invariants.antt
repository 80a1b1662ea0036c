use Rattle.std.proofs.Common.{◌≡◌, take, true}
use Rattle.lf_tree.specs.Trees.{is_ascending}
use Rattle.lf_tree.proofs.lists.ascending.Given as goal

abbrev pub invariant-faults : goal.invariant-faults
invariant-faults l = (l.set ≡ take l.fault-index l.faults) × (is_ascending (take l.fault-index l.faults) ≡ true)
