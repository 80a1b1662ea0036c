-- The tree of nodes that a tree of marks becomes.
use Rattle.std.specs.Prelude.{◌≡◌, ℕ, Bool, List, [], ◌∷◌, length, nat_lt, if◌then◌else◌, Option, None, Some}
use Rattle.std.specs.List.{slice_get}
use Rattle.std.specs.Option.{option_map, option_and_then}
use Rattle.lf_tree.specs.declared.tree.Node.{Node, out-Node}
use Rattle.lf_tree.specs.declared.tree.Node.TheOpen.{Node-F}
use Rattle.lf_marks.specs.Steps.{Mark, Marking}
use Rattle.lf_marks.specs.Steps as mark

-- the i-th kid of a node
abbrev pub kid_in : Node-F Node → ℕ → Option Node
kid_in Node-F.Misses i = None
kid_in Node-F.Reaches i = None
kid_in (Node-F.Branch reach edges kids) i = slice_get kids i

-- where a path leads from a node
abbrev pub node_along : Node → List ℕ → Option Node
node_along n [] = Some n
node_along n (i ∷ path) = option_and_then (λ kid. node_along kid path) (kid_in (out-Node n) i)

-- what a node says of its set
abbrev pub said_in : Node-F Node → Mark
said_in Node-F.Misses = mark.Misses
said_in Node-F.Reaches = mark.Reaches
said_in (Node-F.Branch reach edges kids) = mark.Branch reach edges

abbrev pub said : Node → Mark
said n = said_in (out-Node n)

-- what the tree says of a set: it has the answered sets, and a branch on the level is a leaf there
abbrev pub shown : Bool → Option Mark → Option Mark
shown above None = None
shown above (Some mark.Waiting) = None
shown above (Some mark.Open) = None
shown above (Some (mark.Claimed t)) = None
shown above (Some mark.Misses) = Some mark.Misses
shown above (Some mark.Reaches) = Some mark.Reaches
shown above (Some (mark.Branch reach edges)) = Some (if above then mark.Branch reach edges else mark.Reaches)

-- the tree of the marks down to a level
abbrev pub IsTreeOf : ℕ → Marking → Node → Type 0
IsTreeOf level at n = (p : List ℕ) → option_map said (node_along n p) ≡ shown (nat_lt (length p) level) (at p)
