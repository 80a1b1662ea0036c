-- The nodes of a tree, one after another, and where each stands.
use Rattle.std.specs.Prelude.{ℕ, ◌+◌, List, [], ◌∷◌, ◌++◌, length, Option, None, Some}
use Rattle.std.specs.List.{flat_map}
use Rattle.lf_tree.specs.declared.tree.Tree.{Tree}
use Rattle.lf_tree.specs.declared.tree.Node.{Node, para-Node}
use Rattle.lf_tree.specs.declared.tree.Node.TheOpen.{Node-F}
use Rattle.lf_tree.specs.declared.preorder.Row.{Row}

-- a node, the place of its branch in the list, its own place among its siblings, and how many branches stand above it
pub record Seen : Type 0 where
  pub parent : Option ℕ
  pub kid : ℕ
  pub depth : ℕ
  pub node : Node

-- what a row shows
abbrev pub seen : Row → Seen
seen row = record { parent = row.parent; kid = row.kid; depth = row.depth; node = row.node.now }

-- the rows of the kids from the one at a place among its siblings on, each with all beneath it: of the branch at `place` and
-- `depth`, where `next` rows stand before them
abbrev pub of_kids : ℕ → ℕ → ℕ → ℕ → List (Node × (ℕ → ℕ → ℕ → List Seen)) → List Seen
of_kids place depth next kid [] = []
of_kids place depth next kid (one ∷ more) =
    let all : List Seen =
    record { parent = Some place; kid = kid; depth = depth + 1; node = one.0 } ∷ one.1 next (depth + 1) (next + 1) in
    all ++ of_kids place depth (next + length all) (kid + 1) more

-- one level, with for each kid the node and the rows beneath it
abbrev pub beneath_step : Node-F (Node × (ℕ → ℕ → ℕ → List Seen)) → ℕ → ℕ → ℕ → List Seen
beneath_step Node-F.Misses place depth next = []
beneath_step Node-F.Reaches place depth next = []
beneath_step (Node-F.Branch reach edges kids) place depth next = of_kids place depth next 0 kids

-- the rows of all nodes beneath the one at `place` and `depth`, where `next` rows stand before them
abbrev pub beneath : Node → ℕ → ℕ → ℕ → List Seen
beneath = para-Node (ℕ → ℕ → ℕ → List Seen) beneath_step

-- the rows of all nodes: the root first, and then each kid in order, with all that is beneath it
abbrev pub rows_of : Tree → List Seen
rows_of tree = record { parent = None; kid = 0; depth = 0; node = tree.root } ∷ beneath tree.root 0 0 1

-- one level, with for each kid the node and the nodes beneath it
abbrev pub preorder_step : Node-F (Node × List Node) → List Node
preorder_step Node-F.Misses = []
preorder_step Node-F.Reaches = []
preorder_step (Node-F.Branch reach edges kids) = flat_map (λ one. one.0 ∷ one.1) kids

-- the node and all beneath it: first the node, and then each kid in order, with all that is beneath it
abbrev pub preorder : Node → List Node
preorder n = n ∷ para-Node (List Node) preorder_step n
