use Rattle.std.proofs.Common.{◌≡◌, true, take}
use Rattle.std.specs.List.{list_all}
use Rattle.lf_tree.specs.Trees.{is_fault}
use Rattle.lf_tree.proofs.facts.faults_are_kept.Given as goal

abbrev pub invariant-faults : goal.invariant-faults
invariant-faults l = list_all is_fault (take l.fault-index l.faults) ≡ true
