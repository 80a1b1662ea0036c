-- What the nodes of a tree get from the branches above them, and how the rows of a tree hang together.
use Rattle.std.specs.Prelude.{◌≡◌, ℕ, ◌+◌, ◌<◌, List, [], ◌∷◌, ◌++◌, Some, map}
use Rattle.std.specs.List.{slice_get}
use Rattle.lf_tree.specs.declared.tree.Tree.{Tree}
use Rattle.lf_tree.specs.declared.tree.Node.{Node, out-Node, para-Node}
use Rattle.lf_tree.specs.declared.tree.Node.TheOpen.{Node-F}
use Rattle.lf_tree.specs.Rows.{Seen, rows_of}

-- the kids of one level
abbrev pub kids_in : Node-F Node → List Node
kids_in Node-F.Misses = []
kids_in Node-F.Reaches = []
kids_in (Node-F.Branch reach edges kids) = kids

-- the kids of a node, in order: a leaf has none
abbrev pub kids_of : Node → List Node
kids_of n = kids_in (out-Node n)

-- a node hands to the kid at a place a value, by its own
module _ {A : Type 0} (handed : A → Node → ℕ → A) where
  -- the kids from the one at a place on, each with its value, and all beneath it
  abbrev pub heirs_of : Node → A → ℕ → List (Node × (Node → A → List (A × Node))) → List (A × Node)
  heirs_of branch value kid [] = []
  heirs_of branch value kid (one ∷ more) =
      let given : A = handed value branch kid in
      ((given, one.0) ∷ one.1 one.0 given) ++ heirs_of branch value (kid + 1) more

  -- one level, with for each kid the node and all beneath it
  abbrev pub heirs_step : Node-F (Node × (Node → A → List (A × Node))) → Node → A → List (A × Node)
  heirs_step Node-F.Misses branch value = []
  heirs_step Node-F.Reaches branch value = []
  heirs_step (Node-F.Branch reach edges kids) branch value = heirs_of branch value 0 kids

  -- all nodes beneath one that has a value, each with its own value
  abbrev pub heirs : Node → A → List (A × Node)
  heirs n = para-Node (Node → A → List (A × Node)) heirs_step n n

  -- all nodes from one that has a value on, each with its own value: the node first, and then each kid in order, with all
  -- that is beneath it
  abbrev pub inherited : Node → A → List (A × Node)
  inherited n value = (value, n) ∷ heirs n value

  -- the same of the kids of a branch, from the one at a place on
  abbrev pub inherited_by : Node → A → ℕ → List Node → List (A × Node)
  inherited_by branch value kid [] = []
  inherited_by branch value kid (one ∷ more) =
      inherited one (handed value branch kid) ++ inherited_by branch value (kid + 1) more

  -- of two rows with their values the second is that of a kid of the first
  pub record IsKid (branch kid : Seen × A) : Type 0 where
    pub deeper : kid.0.depth ≡ branch.0.depth + 1
    pub node : slice_get (kids_of branch.0.node) kid.0.kid ≡ Some kid.0.node
    pub value : kid.1 ≡ handed branch.1 branch.0.node kid.0.kid

  -- the row at a place of the list is that of a kid, and names the place of its branch's row, which comes before
  pub record HasBranch (rows : List (Seen × A)) (at : ℕ) (kid : Seen × A) : Type 0 where
    pub place : ℕ
    pub branch : Seen × A
    pub named : kid.0.parent ≡ Some place
    pub before : place < at
    pub there : slice_get rows place ≡ Some branch
    pub is_kid : IsKid branch kid

  -- these are the rows of the tree, each with the value of its node, where the root has this value
  pub record AreLinked (tree : Tree) (value : A) (rows : List (Seen × A)) : Type 0 where
    pub rows_are : map (λ e. e.0) rows ≡ rows_of tree
    pub values_are : map (λ e. (e.1, e.0.node)) rows ≡ inherited tree.root value
    pub hang : (k : ℕ) (e : Seen × A) → 0 < k → slice_get rows k ≡ Some e → HasBranch rows k e
