-- Accepted trees: what a checker tests of a certificate, whoever made it.
use Rattle.std.specs.Prelude.{◌≡◌, ℕ, ◌+◌, ◌<◌, Bool, true, false, not, List, length, Option, None, Some, MatchOption}
use Rattle.std.specs.List.{Contains}
use Rattle.lf_faults.specs.declared.fault.Parts.{Parts}
use Rattle.lf_faults.specs.declared.spec.Bounds.{Bounds}
use Rattle.lf_faults.specs.Faults.{set_is_before}
use Rattle.lf_faults.specs.Allowed.{IsInLimits, IsAllowed, IsSubset, IsFirst}
use Rattle.lf_sim.specs.Runs.{World}
use Rattle.lf_outcome.specs.declared.formula.Formula.{Formula}
use Rattle.lf_outcome.specs.Truth.{reaches, reaches_within}
use Rattle.lf_cone.specs.Cones.{IsClosed, AreRequired}
use Rattle.lf_tree.specs.declared.tree.Tree.{Tree}
use Rattle.lf_tree.specs.declared.tree.Node.{Node, out-Node}
use Rattle.lf_tree.specs.declared.tree.Node.TheOpen.{Node-F}
use Rattle.lf_certificate.specs.Places.{Place, place_from, place_at, root_of}

-- the bounds are within the limits, and are those of the world
pub record IsBounded {State Note Fact : Type 0} (w : World State Note Fact) (b : Bounds) : Type 0 where
  pub limits : IsInLimits b
  pub nodes : w.rules.nodes ≡ b.nodes
  pub horizon : w.horizon ≡ b.horizon
  pub pause_length : w.pause_length ≡ b.pause_length

-- the last depth of a tree: as many branches as its answer has faults, or the budget
abbrev pub last_depth : Bounds → Option (List Parts) → ℕ
last_depth b None = b.budget
last_depth b (Some answer) = length answer

-- what a tree covers has fewer faults than its answer, or no more than the budget
abbrev pub covered_below : Bounds → Option (List Parts) → ℕ
covered_below b None = b.budget + 1
covered_below b (Some answer) = length answer

-- the answer, if there is one, is an allowed set
abbrev pub IsAllowedAnswer : Bounds → Option (List Parts) → Type 0
IsAllowedAnswer b None = Unit {0}
IsAllowedAnswer b (Some answer) = IsAllowed b answer

module _ {State Note Fact : Type 0} (w : World State Note Fact) (formula : Formula Fact) where
  -- at a place so far down or beneath it the set stands at the last depth, and its run misses
  pub record MissesFrom (last depth : ℕ) (p : Place) (faults : List Parts) : Type 0 where
    pub path : List ℕ
    pub place : Place
    pub leads : place_from p path ≡ Some place
    pub here : depth + length path ≡ last
    pub same : place.faults ≡ faults
    pub misses : reaches w faults formula ≡ false

module _ {State Note Fact : Type 0} (w : World State Note Fact) (b : Bounds) (formula : Formula Fact) where
  -- the answer: the first, in the order of sets, of the allowed sets that miss, or none where no allowed set misses
  abbrev pub IsAnswer : Option (List Parts) → Type 0
  IsAnswer answer = IsFirst b (λ faults. not (reaches w faults formula)) answer

  -- every allowed set with these faults and none of the excluded, of fewer than so many faults, reaches
  abbrev pub Covers : List Parts → List Parts → ℕ → Type 0
  Covers faults excluded few =
      (wider : List Parts) → IsAllowed b wider → IsSubset faults wider → ((f : Parts) → Contains excluded f → ¬ Contains wider f)
      → length wider < few → reaches w wider formula ≡ true

  -- a leaf is right at the last depth, where the set misses or reaches as it says
  pub record IsRightLeaf (last depth : ℕ) (faults : List Parts) (says : Bool) : Type 0 where
    pub here : depth ≡ last
    pub truth : reaches w faults formula ≡ says

  -- a branch is right above the last depth: its reach is closed, the formula is true within it, its edges are those that
  -- are required, and there is a kid for each
  pub record IsRightBranch (last depth : ℕ) (faults excluded : List Parts) (reach : List ℕ) (edges : List Parts) (kids : List Node) : Type 0 where
    pub above : depth < last
    pub closed : IsClosed w faults reach
    pub within : reaches_within w faults reach formula ≡ true
    pub required : AreRequired w faults b reach excluded edges
    pub each : length kids ≡ length edges

  abbrev pub IsRightNode : ℕ → ℕ → List Parts → List Parts → Node-F Node → Type 0
  IsRightNode last depth faults excluded Node-F.Misses = IsRightLeaf last depth faults false
  IsRightNode last depth faults excluded Node-F.Reaches = IsRightLeaf last depth faults true
  IsRightNode last depth faults excluded (Node-F.Branch reach edges kids) = IsRightBranch last depth faults excluded reach edges kids

  -- what stands at a place so far down is right
  abbrev pub IsRight : ℕ → ℕ → Place → Type 0
  IsRight last depth p = IsRightNode last depth p.faults p.excluded (out-Node p.node)

  -- all that stands at a place so far down and beneath it is right
  abbrev pub AreRight : ℕ → ℕ → Place → Type 0
  AreRight last depth p = (path : List ℕ) (q : Place) (at : ℕ) → at ≡ depth + length path → place_from p path ≡ Some q → IsRight last at q

  -- the set stands in the tree at the last depth, and its run misses
  abbrev pub MissesIn : Tree → List Parts → Type 0
  MissesIn tree = MissesFrom w formula (last_depth b tree.answer) 0 (root_of tree)

  -- the first, in the order of sets, of the sets at the last depth that miss, or none where none does
  abbrev pub IsFirstIn : Tree → Option (List Parts) → Type 0
  IsFirstIn tree answer =
      MatchOption answer
      ((faults : List Parts) → ¬ MissesIn tree faults)
      (λ found. MissesIn tree found × ((faults : List Parts) → MissesIn tree faults → set_is_before faults found ≡ false))

  -- the tree is accepted: each of its places is right, and its answer is the first of the sets at the last depth that miss
  pub record IsAccepted (tree : Tree) : Type 0 where
    pub allowed : IsAllowedAnswer b tree.answer
    pub places : (path : List ℕ) (p : Place) → place_at tree path ≡ Some p → IsRight (last_depth b tree.answer) (length path) p
    pub first : IsFirstIn tree tree.answer
