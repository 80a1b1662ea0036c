-- The nodes of a tree one after another, each with the way to it, and what a checker is to find that judges them one by one.
use Rattle.std.specs.Prelude.{◌≡◌, ◌⊎◌, ℕ, ◌+◌, ◌*◌, ◌<◌, ◌≤◌, false, List, [], ◌∷◌, ◌++◌, length, map, take, slice_get, Option, None, Some, IfSome}
use Rattle.std.specs.List.{Contains}
use Rattle.lf_faults.specs.declared.fault.Parts.{Parts}
use Rattle.lf_faults.specs.declared.spec.Bounds.{Bounds}
use Rattle.lf_sim.specs.Runs.{World}
use Rattle.lf_outcome.specs.declared.formula.Formula.{Formula}
use Rattle.lf_outcome.specs.Truth.{reaches}
use Rattle.lf_tree.specs.declared.tree.Tree.{Tree}
use Rattle.lf_tree.specs.declared.tree.Node.{Node, out-Node}
use Rattle.lf_tree.specs.declared.tree.Node.TheOpen.{Node-F}
use Rattle.lf_tree.specs.Heirs.{inherited}
use Rattle.lf_tree.specs.Rows.{rows_of, seen}
use Rattle.lf_certificate.specs.declared.reason.Reason.{Reason}
use Rattle.lf_certificate.specs.Places.{Place, place_at}
use Rattle.lf_certificate.specs.Accepted.{IsRight}
use Rattle.lf_certificate.specs.Faults.{FailsFirst}
use Rattle.lf_check.specs.declared.excluded.Excluded.{Excluded}
use Rattle.lf_check.specs.declared.found.Found.{Found}
use Rattle.lf_check.specs.declared.found.Found.TheVariants.{Fails, Passes}
use Rattle.lf_check.specs.declared.places.Places.{Places}
use Rattle.lf_check.specs.Walks.{IsFirstOf}

-- a branch hands to each kid the way to it
abbrev pub way_on : List ℕ → Node → ℕ → List ℕ
way_on way branch i = way ++ i ∷ []

-- the ways to the nodes of a tree: to the root first, and then to each kid in order, with all that is beneath it
abbrev pub ways_of : Tree → List (List ℕ)
ways_of tree = map (λ (e : List ℕ × Node). e.0) (inherited way_on tree.root [])

-- this place is that of the node at a place of the list
pub record StandsAt (tree : Tree) (at : ℕ) (way : List ℕ) (p : Place) : Type 0 where
  pub way_is : slice_get (ways_of tree) at ≡ Some way
  pub leads : place_at tree way ≡ Some p

-- the edges of one level
abbrev pub edges_in : Node-F Node → List Parts
edges_in Node-F.Misses = []
edges_in Node-F.Reaches = []
edges_in (Node-F.Branch reach edges kids) = edges

-- the edges of a node: a leaf has none
abbrev pub edges_of : Node → List Parts
edges_of n = edges_in (out-Node n)

-- a node has an edge that makes no set of at most six different faults with its own set
pub record IsFull (p : Place) : Type 0 where
  pub edge : Parts
  pub among : Contains (edges_of p.node) edge
  pub full : ¬ ((¬ Contains p.faults edge) × (length p.faults < 6))

-- a branch earlier in the list can't be right: it is full, or has more edges than there are faults
pub record IsBarred (tree : Tree) (at : ℕ) : Type 0 where
  pub above : ℕ
  pub way : List ℕ
  pub place : Place
  pub before : above < at
  pub stands : StandsAt tree above way place
  pub wrong : IsFull place ⊎ (3840 < length (edges_of place.node))

-- the set of which the node at a place of the list speaks, or none where it has no place, or is barred
abbrev pub IsSetAt : Tree → ℕ → Option (List Parts) → Type 0
IsSetAt tree at None = (way : List ℕ) (p : Place) → StandsAt tree at way p → IsBarred tree at
IsSetAt tree at (Some set) = (way : List ℕ) × (p : Place) × StandsAt tree at way p × (p.faults ≡ set)

abbrev pub AreSets : Tree → List (Option (List Parts)) → Type 0
AreSets tree sets = (at : ℕ) (set : Option (List Parts)) → slice_get sets at ≡ Some set → IsSetAt tree at set

-- all nodes of the tree, each with its set
pub record ArePlaces (places : Places) : Type 0 where
  pub rows : map seen places.rows.items ≡ rows_of places.tree.now
  pub count : length places.sets.items ≡ length places.rows.items
  pub sets : AreSets places.tree.now places.sets.items

-- the list holds what is excluded at a kid of the branch at a place of the list of nodes
abbrev pub ExcludesAt : Tree → ℕ → ℕ → List Parts → Type 0
ExcludesAt tree branch kid faults =
    (way : List ℕ) (p : Place) → StandsAt tree branch way p → faults ≡ p.excluded ++ take kid (edges_of p.node)

-- it holds what is excluded at the node that was gone to last
abbrev pub IsExcluded : Tree → Excluded → Type 0
IsExcluded tree excluded = IfSome excluded.last (λ last. ExcludesAt tree last.branch last.kid excluded.faults.items)

module _ {State Note Fact : Type 0} (w : World State Note Fact) (formula : Formula Fact) (last : ℕ) (tree : Tree)
    (sets : List (Option (List Parts))) where
  -- the node at a place of the list stands at the last depth, and its set misses
  pub record MissesAt (at : ℕ) (faults : List Parts) : Type 0 where
    pub way : List ℕ
    pub way_is : slice_get (ways_of tree) at ≡ Some way
    pub set_is : slice_get sets at ≡ Some (Some faults)
    pub deep : length way ≡ last
    pub misses : reaches w faults formula ≡ false

  -- some node from one place of the list to before another does
  abbrev pub MissesWithin : ℕ → ℕ → List Parts → Type 0
  MissesWithin from to faults = (at : ℕ) × (from ≤ at) × (at < to) × MissesAt at faults

module _ {State Note Fact : Type 0} (w : World State Note Fact) (b : Bounds) (formula : Formula Fact) (last : ℕ) (tree : Tree) where
  -- the node at a place of the list fails, by this reason first
  pub record FailsAt (at : ℕ) (why : Reason) : Type 0 where
    pub way : List ℕ
    pub place : Place
    pub stands : StandsAt tree at way place
    pub fails : FailsFirst w b formula last (length way) place why

  module _ (sets : List (Option (List Parts))) where
    -- it is right, if it has a set
    abbrev pub IsRightAt : ℕ → Type 0
    IsRightAt at = (way : List ℕ) (p : Place) (set : List Parts) → StandsAt tree at way p → slice_get sets at ≡ Some (Some set)
        → IsRight w b formula last (length way) p

    -- all nodes from one place of the list to before another are
    abbrev pub AreRightWithin : ℕ → ℕ → Type 0
    AreRightWithin from to = (at : ℕ) → from ≤ at → at < to → IsRightAt at

    -- the first of them that fails, or that each is right, with the first of the sets that miss
    abbrev pub IsFound : ℕ → ℕ → Found → Type 0
    IsFound from to (Fails at why) = (from ≤ at) × (at < to) × AreRightWithin from at × FailsAt at why
    IsFound from to (Passes first) = AreRightWithin from to × IsFirstOf (MissesWithin w formula last tree sets from to) first

    -- the same of one part: each part has 256 nodes, but the last
    abbrev pub IsFoundInPart : ℕ → Found → Type 0
    IsFoundInPart part = IsFound (part * 256) (part * 256 + 256)

    -- the same of all nodes, which are no more than some number
    abbrev pub IsFoundInAll : Found → Type 0
    IsFoundInAll it = (to : ℕ) × (length sets ≤ to) × IsFound 0 to it
