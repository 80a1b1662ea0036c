-- The parts of branches and trees that were read, as their data.
use Rattle.serde_json.specs.View.{view}
use Rattle.lf_tree.specs.declared.nodes.BranchParts.{BranchParts}
use Rattle.lf_tree.specs.declared.read.TreeParts.{TreeParts}
use Rattle.lf_tree.specs.Reading.{BranchData, TreeData}

abbrev pub branch_view : BranchParts → BranchData
branch_view parts = record { edges = view parts.edges.now; kids = view parts.kids.now; reach = view parts.reach.now }

abbrev pub tree_view : TreeParts → TreeData
tree_view parts = record { answer = view parts.answer.now; format = view parts.format.now; root = view parts.root.now }
