-- The places of a tree: a path of kids leads from the root to each node, and makes it speak of a set of faults.
use Rattle.std.specs.Prelude.{ℕ, List, [], ◌∷◌, ◌++◌, take, slice_get, Option, None, Some}
use Rattle.std.specs.Option.{option_map, option_and_then}
use Rattle.lf_faults.specs.declared.fault.Parts.{Parts}
use Rattle.lf_faults.specs.Faults.{inserted}
use Rattle.lf_tree.specs.declared.tree.Tree.{Tree}
use Rattle.lf_tree.specs.declared.tree.Node.{Node, out-Node}
use Rattle.lf_tree.specs.declared.tree.Node.TheOpen.{Node-F}

-- a node, the set that it speaks of, and the faults that no set beneath it is to hold
pub record Place : Type 0 where
  pub node : Node
  pub faults : List Parts
  pub excluded : List Parts

-- beneath a branch with this set, the kid behind an edge speaks of the set with that edge. What is excluded at the branch
-- is excluded at the kid, and so are the edges before its own. There is no kid without an edge.
abbrev pub kid_in : Node-F Node → List Parts → List Parts → ℕ → Option Place
kid_in Node-F.Misses faults excluded i = None
kid_in Node-F.Reaches faults excluded i = None
kid_in (Node-F.Branch reach edges kids) faults excluded i =
    option_and_then (λ edge. option_map (λ kid. record { node = kid; faults = inserted edge faults; excluded = excluded ++ take i edges })
    (slice_get kids i)) (slice_get edges i)

-- the i-th kid of a place
abbrev pub kid_at : Place → ℕ → Option Place
kid_at p = kid_in (out-Node p.node) p.faults p.excluded

-- where the path of kids leads from a place
abbrev pub place_from : Place → List ℕ → Option Place
place_from p [] = Some p
place_from p (i ∷ path) = option_and_then (λ kid. place_from kid path) (kid_at p i)

-- the root speaks of the empty set, and nothing is excluded beneath it
abbrev pub root_of : Tree → Place
root_of tree = record { node = tree.root; faults = []; excluded = [] }

-- where the path leads from the root
abbrev pub place_at : Tree → List ℕ → Option Place
place_at tree = place_from (root_of tree)
