use Rattle.std.proofs.Common.{length}
use Rattle.lf_marks.proofs.BuildLemmas.{IsBuilt}
use Rattle.lf_marks.proofs.marks.Marks.into_nodes.Given as goal

-- the nodes of the sets so far are made (the first field of what is left of the marks is their level)
abbrev pub invariant-loop-sets : goal.invariant-loop-sets
invariant-loop-sets l = IsBuilt l.self.0 l.start l.initial.sets.items l.sets.items

abbrev pub decreases-loop-sets : goal.decreases-loop-sets
decreases-loop-sets l = length l.sets.items
