-- What the rows of a tree are: its nodes, the root first and then each kid in order, with all that is beneath it.
use Rattle.std.specs.Prelude.{◌≡◌, ℕ, ◌+◌, ◌<◌, List, length, map, sum, take, None, Some}
use Rattle.std.specs.List.{slice_get}
use Rattle.lf_tree.specs.declared.tree.Tree.{Tree}
use Rattle.lf_tree.specs.declared.tree.Node.{Node}
use Rattle.lf_tree.specs.Counts.{nodes_in, nodes_of}
use Rattle.lf_tree.specs.Heirs.{kids_of}
use Rattle.lf_tree.specs.Rows.{Seen}

-- the row at a place of the list names the place of a branch's row, which comes before, and is that of a kid of the branch
pub record IsHung (rows : List Seen) (at : ℕ) (kid : Seen) : Type 0 where
  pub place : ℕ
  pub branch : Seen
  pub named : kid.parent ≡ Some place
  pub before : place < at
  pub there : slice_get rows place ≡ Some branch
  pub deeper : kid.depth ≡ branch.depth + 1
  pub node : slice_get (kids_of branch.node) kid.kid ≡ Some kid.node

-- each row but the first hangs in its branch
abbrev pub AreHung : List Seen → Type 0
AreHung rows = (at : ℕ) (kid : Seen) → 0 < at → slice_get rows at ≡ Some kid → IsHung rows at kid

-- where the kid of a branch stands: behind the branch, its elder siblings and all that is beneath these
abbrev pub place_of_kid : ℕ → List Node → ℕ → ℕ
place_of_kid place kids kid = place + 1 + sum (map nodes_in (take kid kids))

-- each kid of each node of the list has its row there, which names the node's row
abbrev pub HaveKids : List Seen → Type 0
HaveKids rows = (place kid : ℕ) (branch : Seen) (n : Node) → slice_get rows place ≡ Some branch → slice_get (kids_of branch.node) kid ≡ Some n
    → slice_get rows (place_of_kid place (kids_of branch.node) kid) ≡ Some (record { parent = Some place; kid = kid; depth = branch.depth + 1; node = n })

-- one row for each node: the first is the root's, and from there on each kid has its own
pub record AreRows (tree : Tree) (rows : List Seen) : Type 0 where
  pub count : length rows ≡ nodes_of tree
  pub first : slice_get rows 0 ≡ Some (record { parent = None; kid = 0; depth = 0; node = tree.root })
  pub kids : HaveKids rows
