-- What answers bring.
use Rattle.std.specs.Prelude.{ℕ, List}
use Rattle.lf_faults.specs.declared.fault.Parts.{Parts}
use Rattle.lf_marks.specs.Steps.{Mark}
use Rattle.lf_marks.specs.Steps as mark
use Rattle.lf_marks.specs.declared.grown.Grown.{Grown}
use Rattle.lf_marks.specs.declared.grown.Answer.{Answer}
use Rattle.lf_marks.specs.declared.grown.Answer.TheVariants.{Misses, Reaches, Branch}

-- the reach and the edges of a branch
abbrev pub reach_of : Grown → List ℕ
reach_of g = g.branch.value.reach

abbrev pub edges_of : Grown → List Parts
edges_of g = g.branch.value.edges

-- the mark of an answer
abbrev pub mark_for : Answer → Mark
mark_for Misses = mark.Misses
mark_for Reaches = mark.Reaches
mark_for (Branch g) = mark.Branch (reach_of g) (edges_of g)
