-- How many nodes a tree has.
use Rattle.std.specs.Prelude.{ℕ, ◌+◌, sum}
use Rattle.lf_tree.specs.declared.tree.Tree.{Tree}
use Rattle.lf_tree.specs.declared.tree.Node.{Node, fold-Node}
use Rattle.lf_tree.specs.declared.tree.Node.TheOpen.{Node-F}

-- one level, with the number of nodes of each kid in its place
abbrev pub nodes_step : Node-F ℕ → ℕ
nodes_step Node-F.Misses = 1
nodes_step Node-F.Reaches = 1
nodes_step (Node-F.Branch reach edges kids) = 1 + sum kids

-- the node, and all nodes beneath it
abbrev pub nodes_in : Node → ℕ
nodes_in = fold-Node ℕ nodes_step

-- the nodes of the tree
abbrev pub nodes_of : Tree → ℕ
nodes_of tree = nodes_in tree.root
