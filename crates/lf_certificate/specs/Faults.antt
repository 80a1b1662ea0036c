-- What is wrong with a tree, and what of it is met first.
use Rattle.std.specs.Prelude.{◌≡◌, ◌≢◌, ℕ, ◌+◌, ◌<◌, ◌≤◌, Bool, true, false, List, [], length, Some}
use Rattle.std.specs.List.{Contains}
use Rattle.std.specs.Ordering.{nat_cmp, is_lt}
use Rattle.std.specs.Cmp.Lexicographic.{slice_cmp}
use Rattle.lf_faults.specs.declared.fault.Parts.{Parts}
use Rattle.lf_faults.specs.declared.spec.Bounds.{Bounds}
use Rattle.lf_sim.specs.Runs.{World}
use Rattle.lf_outcome.specs.declared.formula.Formula.{Formula}
use Rattle.lf_outcome.specs.Truth.{reaches, reaches_within}
use Rattle.lf_outcome.specs.Reaches.{IsReachOf}
use Rattle.lf_cone.specs.Cones.{IsClosed, IsRequired, AreRequired}
use Rattle.lf_tree.specs.declared.tree.Tree.{Tree}
use Rattle.lf_tree.specs.declared.tree.Node.{Node, out-Node}
use Rattle.lf_tree.specs.declared.tree.Node.TheOpen.{Node-F}
use Rattle.lf_certificate.specs.declared.reason.Reason.{Reason}
use Rattle.lf_certificate.specs.declared.reason.Reason.TheVariants as reason
use Rattle.lf_certificate.specs.Places.{Place, place_from, place_at, root_of}
use Rattle.lf_certificate.specs.Accepted.{last_depth, IsAllowedAnswer, IsFirstIn}

-- the numbers of the reasons
abbrev pub number_of : Reason → ℕ
number_of reason.AnswerNotAllowed = 1
number_of reason.SaidToReach = 2
number_of reason.SaidToMiss = 3
number_of reason.ReachFallsShort = 4
number_of reason.ReachNotClosed = 5
number_of reason.EdgeMissing = 6
number_of reason.EdgesDiffer = 7
number_of reason.KidsDiffer = 8
number_of reason.WrongDepth = 9
number_of reason.AnswerNotFirst = 10
number_of reason.BranchMisses = 11

-- the order in which a place is looked at: its depth, what its leaf says, whether its run reaches, its reach, its edges, its kids
abbrev pub turn_of : Reason → ℕ
turn_of reason.WrongDepth = 0
turn_of reason.SaidToReach = 1
turn_of reason.SaidToMiss = 2
turn_of reason.BranchMisses = 3
turn_of reason.ReachFallsShort = 4
turn_of reason.ReachNotClosed = 5
turn_of reason.EdgeMissing = 6
turn_of reason.EdgesDiffer = 7
turn_of reason.KidsDiffer = 8
turn_of reason.AnswerNotAllowed = 9
turn_of reason.AnswerNotFirst = 10

-- the order in which the places of a tree are visited: a branch before its kids, and a kid with all beneath it before the next
abbrev pub path_is_before : List ℕ → List ℕ → Bool
path_is_before p q = is_lt (slice_cmp nat_cmp p q)

module _ {State Note Fact : Type 0} (w : World State Note Fact) (formula : Formula Fact) where
  -- what may be wrong with a leaf that says whether its set reaches
  abbrev pub LeafFails : ℕ → ℕ → List Parts → Bool → Reason → Type 0
  LeafFails last depth faults says reason.WrongDepth = depth ≢ last
  LeafFails last depth faults says reason.SaidToReach = (says ≡ true) × (reaches w faults formula ≡ false)
  LeafFails last depth faults says reason.SaidToMiss = (says ≡ false) × (reaches w faults formula ≡ true)
  LeafFails last depth faults says reason.AnswerNotAllowed = ⊥
  LeafFails last depth faults says reason.ReachFallsShort = ⊥
  LeafFails last depth faults says reason.ReachNotClosed = ⊥
  LeafFails last depth faults says reason.EdgeMissing = ⊥
  LeafFails last depth faults says reason.EdgesDiffer = ⊥
  LeafFails last depth faults says reason.KidsDiffer = ⊥
  LeafFails last depth faults says reason.AnswerNotFirst = ⊥
  LeafFails last depth faults says reason.BranchMisses = ⊥

  -- the reach has a number for each node, up to the horizon, and the formula is true within it
  abbrev pub Suffices : List Parts → List ℕ → Type 0
  Suffices faults reach = IsReachOf w.rules.nodes w.horizon reach × (reaches_within w faults reach formula ≡ true)

module _ {State Note Fact : Type 0} (w : World State Note Fact) (b : Bounds) (formula : Formula Fact) where
  -- what may be wrong with a branch
  abbrev pub BranchFails : ℕ → ℕ → List Parts → List Parts → List ℕ → List Parts → List Node → Reason → Type 0
  BranchFails last depth faults excluded reach edges kids reason.WrongDepth = last ≤ depth
  BranchFails last depth faults excluded reach edges kids reason.BranchMisses = reaches w faults formula ≡ false
  BranchFails last depth faults excluded reach edges kids reason.ReachFallsShort = ¬ Suffices w formula faults reach
  BranchFails last depth faults excluded reach edges kids reason.ReachNotClosed = ¬ IsClosed w faults reach
  BranchFails last depth faults excluded reach edges kids reason.EdgeMissing =
      (f : Parts) × IsRequired w faults b reach excluded f × (¬ Contains edges f)
  BranchFails last depth faults excluded reach edges kids reason.EdgesDiffer = ¬ AreRequired w faults b reach excluded edges
  BranchFails last depth faults excluded reach edges kids reason.KidsDiffer = length kids ≢ length edges
  BranchFails last depth faults excluded reach edges kids reason.AnswerNotAllowed = ⊥
  BranchFails last depth faults excluded reach edges kids reason.SaidToReach = ⊥
  BranchFails last depth faults excluded reach edges kids reason.SaidToMiss = ⊥
  BranchFails last depth faults excluded reach edges kids reason.AnswerNotFirst = ⊥

  abbrev pub NodeFails : ℕ → ℕ → List Parts → List Parts → Node-F Node → Reason → Type 0
  NodeFails last depth faults excluded Node-F.Misses why = LeafFails w formula last depth faults false why
  NodeFails last depth faults excluded Node-F.Reaches why = LeafFails w formula last depth faults true why
  NodeFails last depth faults excluded (Node-F.Branch reach edges kids) why = BranchFails last depth faults excluded reach edges kids why

  -- what stands at a place so far down fails by this reason
  abbrev pub Fails : ℕ → ℕ → Place → Reason → Type 0
  Fails last depth p = NodeFails last depth p.faults p.excluded (out-Node p.node)

  -- the first reason by which it fails
  pub record FailsFirst (last depth : ℕ) (p : Place) (why : Reason) : Type 0 where
    pub fails : Fails last depth p why
    pub before : (other : Reason) → turn_of other < turn_of why → ¬ Fails last depth p other

  -- the same at a place so far down, with all beneath it: the path from it to the first that fails, and the first reason
  pub record FailsFirstFrom (last depth : ℕ) (p : Place) (why : Reason) (path : List ℕ) : Type 0 where
    pub place : Place
    pub leads : place_from p path ≡ Some place
    pub fails : FailsFirst last (depth + length path) place why
    pub before : (other : List ℕ) (q : Place) → path_is_before other path ≡ true → place_from p other ≡ Some q
        → (reason : Reason) → ¬ Fails last (depth + length other) q reason

  -- the path to the first place of a tree that fails, and the first reason by which it does
  abbrev pub IsFirstFailing : Tree → Reason → List ℕ → Type 0
  IsFirstFailing tree = FailsFirstFrom (last_depth b tree.answer) 0 (root_of tree)

  -- no place fails
  abbrev pub NoneFails : Tree → Type 0
  NoneFails tree =
      (path : List ℕ) (p : Place) → place_at tree path ≡ Some p → (why : Reason) → ¬ Fails (last_depth b tree.answer) (length path) p why

  -- the first fault of a tree, with the path to its place: first of all an answer that isn't allowed, then what fails at a
  -- place, last of all an answer that isn't the first of the sets that miss. The first and the last stand at the root
  abbrev pub IsFirstFault : Tree → Reason → List ℕ → Type 0
  IsFirstFault tree reason.AnswerNotAllowed path = (path ≡ []) × (¬ IsAllowedAnswer b tree.answer)
  IsFirstFault tree reason.AnswerNotFirst path =
      (path ≡ []) × IsAllowedAnswer b tree.answer × NoneFails tree × (¬ IsFirstIn w b formula tree tree.answer)
  IsFirstFault tree reason.WrongDepth path = IsAllowedAnswer b tree.answer × IsFirstFailing tree reason.WrongDepth path
  IsFirstFault tree reason.SaidToReach path = IsAllowedAnswer b tree.answer × IsFirstFailing tree reason.SaidToReach path
  IsFirstFault tree reason.SaidToMiss path = IsAllowedAnswer b tree.answer × IsFirstFailing tree reason.SaidToMiss path
  IsFirstFault tree reason.BranchMisses path = IsAllowedAnswer b tree.answer × IsFirstFailing tree reason.BranchMisses path
  IsFirstFault tree reason.ReachFallsShort path = IsAllowedAnswer b tree.answer × IsFirstFailing tree reason.ReachFallsShort path
  IsFirstFault tree reason.ReachNotClosed path = IsAllowedAnswer b tree.answer × IsFirstFailing tree reason.ReachNotClosed path
  IsFirstFault tree reason.EdgeMissing path = IsAllowedAnswer b tree.answer × IsFirstFailing tree reason.EdgeMissing path
  IsFirstFault tree reason.EdgesDiffer path = IsAllowedAnswer b tree.answer × IsFirstFailing tree reason.EdgesDiffer path
  IsFirstFault tree reason.KidsDiffer path = IsAllowedAnswer b tree.answer × IsFirstFailing tree reason.KidsDiffer path
