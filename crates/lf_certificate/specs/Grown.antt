-- The tree of a search: its answer, and beneath each set that reaches, above the last depth, the sets that are to be tried.
use Rattle.std.specs.Prelude.{◌≡◌, ℕ, ◌<◌, true, false, List, length, Some}
use Rattle.lf_faults.specs.declared.fault.Parts.{Parts}
use Rattle.lf_faults.specs.declared.spec.Bounds.{Bounds}
use Rattle.lf_sim.specs.Runs.{World}
use Rattle.lf_outcome.specs.declared.formula.Formula.{Formula}
use Rattle.lf_outcome.specs.declared.point.Point.{Point}
use Rattle.lf_outcome.specs.Evidence.{evidence_of}
use Rattle.lf_cone.specs.Cones.{IsSharp, AreRequired}
use Rattle.lf_tree.specs.declared.tree.Tree.{Tree}
use Rattle.lf_tree.specs.declared.tree.Node.{Node, out-Node}
use Rattle.lf_tree.specs.declared.tree.Node.TheOpen.{Node-F}
use Rattle.lf_certificate.specs.Places.{Place, place_at}
use Rattle.lf_certificate.specs.Accepted.{last_depth, IsAnswer, IsRightLeaf}

module _ {State Note Fact : Type 0} (w : World State Note Fact) (b : Bounds) (formula : Formula Fact) where
  -- the sharp reach of what the outcome rests on in the run of the set
  abbrev pub IsReachFor : List Parts → List ℕ → Type 0
  IsReachFor faults reach = (points : List Point) × (evidence_of w faults formula ≡ Some points) × IsSharp w faults points reach

  -- a branch as it grows: above the last depth, with the sharp reach, the required edges, and a kid for each
  pub record IsGrownBranch (last depth : ℕ) (faults excluded : List Parts) (reach : List ℕ) (edges : List Parts) (kids : List Node) : Type 0 where
    pub above : depth < last
    pub sharp : IsReachFor faults reach
    pub required : AreRequired w faults b reach excluded edges
    pub each : length kids ≡ length edges

  abbrev pub IsGrownNode : ℕ → ℕ → List Parts → List Parts → Node-F Node → Type 0
  IsGrownNode last depth faults excluded Node-F.Misses = IsRightLeaf w b formula last depth faults false
  IsGrownNode last depth faults excluded Node-F.Reaches = IsRightLeaf w b formula last depth faults true
  IsGrownNode last depth faults excluded (Node-F.Branch reach edges kids) = IsGrownBranch last depth faults excluded reach edges kids

  -- what stands at a place so far down has grown there
  abbrev pub IsGrown : ℕ → ℕ → Place → Type 0
  IsGrown last depth p = IsGrownNode last depth p.faults p.excluded (out-Node p.node)

  -- the tree of the search: the answer, and all that grows above as many faults as it has, or above the budget
  pub record IsTreeOf (tree : Tree) : Type 0 where
    pub answer : IsAnswer w b formula tree.answer
    pub places : (path : List ℕ) (p : Place) → place_at tree path ≡ Some p → IsGrown (last_depth b tree.answer) (length path) p
