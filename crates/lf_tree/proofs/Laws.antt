-- What crates above need of trees and their rows.
use Rattle.std.proofs.Common.{◌≡◌, ℕ, ◌+◌, List, [], ◌∷◌, map, sum}
use Rattle.std.specs.Prelude.{◌⊎◌}
use Rattle.lf_faults.specs.declared.fault.Parts.{Parts}
use Rattle.lf_tree.specs.declared.tree.Tree.{Tree}
use Rattle.lf_tree.specs.declared.tree.Node.{Node}
use Rattle.lf_tree.specs.declared.tree.Node.TheVariants as kind
use Rattle.lf_tree.specs.Counts.{nodes_in}
use Rattle.lf_tree.specs.Heirs.{AreLinked, inherited, inherited_by, kids_of}
use Rattle.lf_tree.specs.Preorder.{AreHung, AreRows}
use Rattle.lf_tree.specs.Rows.{Seen, preorder, rows_of}
use Rattle.lf_tree.proofs.HangLemmas as hangs
use Rattle.lf_tree.proofs.tree.Node.TheLaws.TheKnot as node
use Rattle.lf_tree.proofs.KindLemmas as kinds
use Rattle.lf_tree.proofs.LinkLemmas as links
use Rattle.lf_tree.proofs.PlaceLemmas as places

-- a branch has its kids
pub kids_of-Branch : (reach : List ℕ) (edges : List Parts) (kids : List Node) → kids_of (kind.Branch reach edges kids) ≡ kids
kids_of-Branch = links.kids_of-Branch

-- it is a node, and all beneath its kids
pub nodes_in-Branch : (reach : List ℕ) (edges : List Parts) (kids : List Node)
    → nodes_in (kind.Branch reach edges kids) ≡ 1 + sum (map nodes_in kids)
nodes_in-Branch = kinds.nodes_in-Branch

-- what is inherited from a node on, by its kind
module _ {A : Type 0} (handed : A → Node → ℕ → A) where
  pub inherited-leaf : (n : Node) (value : A) → (n ≡ kind.Misses) ⊎ (n ≡ kind.Reaches) → inherited handed n value ≡ (value, n) ∷ []
  inherited-leaf = links.inherited-leaf handed

  pub inherited-Branch : (reach : List ℕ) (edges : List Parts) (kids : List Node) (value : A) → inherited handed (kind.Branch reach edges kids) value
      ≡ (value, kind.Branch reach edges kids) ∷ inherited_by handed (kind.Branch reach edges kids) value 0 kids
  inherited-Branch = links.inherited-Branch handed

-- whatever the nodes hand to their kids, the rows of a tree are those of the nodes that inherit, in order, and each row but
-- the first is that of a kid of the node whose place it names
pub linked : {A : Type 0} (handed : A → Node → ℕ → A) (tree : Tree) (value : A) → (rows : List (Seen × A)) × AreLinked handed tree value rows
linked handed tree value = (links.linked_rows handed tree value, links.linked handed tree value)

-- the rows are those of the nodes in order, each of which hangs in its branch, and no list but this has one for each node
pub nodes-rows_of : (tree : Tree) → map (λ (r : Seen). r.node) (rows_of tree) ≡ preorder tree.root
nodes-rows_of = hangs.nodes-rows_of

pub hung : (tree : Tree) → AreHung (rows_of tree)
hung = hangs.hung

pub are-rows : (tree : Tree) → AreRows tree (rows_of tree)
are-rows = places.are-rows

pub rows-are-one : (tree : Tree) (rows : List Seen) → AreRows tree rows → rows ≡ rows_of tree
rows-are-one = places.rows-are-one

-- nodes may cross threads: a set for `search`
pub ruleset nodes_cross = (node.crosses)
