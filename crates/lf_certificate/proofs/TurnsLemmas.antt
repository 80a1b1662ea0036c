-- The first reason by which a leaf or a branch fails, from what was found before it in turn; and the kids that a place has.
use Rattle.std.proofs.Common.{◌≡◌, ℕ, ◌<◌, ◌≤◌, Bool, true, false, List, length, sym, ap, ◌∙◌, subst, arith}
use Rattle.std.specs.Prelude.{Some}
use Rattle.std.specs.List.{Contains}
use Rattle.std.proofs.lemmas.Bool.{both_ways, false≢true}
use Rattle.lf_faults.specs.declared.fault.Parts.{Parts}
use Rattle.lf_faults.specs.declared.spec.Bounds.{Bounds}
use Rattle.lf_sim.specs.Runs.{World}
use Rattle.lf_outcome.specs.declared.formula.Formula.{Formula}
use Rattle.lf_outcome.specs.Truth.{reaches}
use Rattle.lf_cone.specs.Cones.{IsClosed, IsRequired, AreRequired}
use Rattle.lf_tree.specs.declared.tree.Node.{Node, out-Node}
use Rattle.lf_tree.specs.declared.tree.Node.TheOpen.{Node-F}
use Rattle.lf_certificate.specs.declared.reason.Reason.{Reason}
use Rattle.lf_certificate.specs.declared.reason.Reason.TheVariants as reason
use Rattle.lf_certificate.specs.Places.{Place, kid_at}
use Rattle.lf_certificate.specs.Faults.{turn_of, LeafFails, Suffices, BranchFails, NodeFails, FailsFirst}
use Rattle.lf_certificate.proofs.AllowedLemmas.{edges_of, is_branch, kid_there}
use Rattle.lf_certificate.proofs.FirstsLemmas.{kid_few}

-- a leaf has no kid
pub misses_no_kid : (p kid : Place) (i : ℕ) → out-Node p.node ≡ Node-F.Misses → kid_at p i ≡ Some kid → ⊥
misses_no_kid p kid i opened is = false≢true (ap is_branch (sym opened ∙ (kid_there p kid i is).opened))

pub reaches_no_kid : (p kid : Place) (i : ℕ) → out-Node p.node ≡ Node-F.Reaches → kid_at p i ≡ Some kid → ⊥
reaches_no_kid p kid i opened is = false≢true (ap is_branch (sym opened ∙ (kid_there p kid i is).opened))

-- and a branch has none past its edges
pub kid_within : (p kid : Place) (reach : List ℕ) (edges : List Parts) (kids : List Node) (i : ℕ)
    → out-Node p.node ≡ Node-F.Branch reach edges kids → kid_at p i ≡ Some kid → i < length edges
kid_within p kid reach edges kids i opened is =
    let same : length (edges_of (out-Node p.node)) ≡ length edges = ap (λ y. length (edges_of y)) opened in
    omega (arith, same, kid_few p kid i is)

module _ {State Note Fact : Type 0} (w : World State Note Fact) (b : Bounds) (formula : Formula Fact) (last depth : ℕ) where
  module _ (faults : List Parts) (says : Bool) where
    leaf_last : (why : Reason) → LeafFails w formula last depth faults says why → turn_of why ≤ 2
    leaf_last reason.WrongDepth h = omega arith
    leaf_last reason.SaidToReach h = omega arith
    leaf_last reason.SaidToMiss h = omega arith
    leaf_last reason.AnswerNotAllowed h = absurd h
    leaf_last reason.ReachFallsShort h = absurd h
    leaf_last reason.ReachNotClosed h = absurd h
    leaf_last reason.EdgeMissing h = absurd h
    leaf_last reason.EdgesDiffer h = absurd h
    leaf_last reason.KidsDiffer h = absurd h
    leaf_last reason.AnswerNotFirst h = absurd h
    leaf_last reason.BranchMisses h = absurd h

    leaf_says : (why : Reason) → LeafFails w formula last depth faults says why → 1 < turn_of why → says ≡ false
    leaf_says reason.WrongDepth h late = absurd (omega (arith, late))
    leaf_says reason.SaidToReach h late = absurd (omega (arith, late))
    leaf_says reason.SaidToMiss h late = h.0
    leaf_says reason.AnswerNotAllowed h late = absurd h
    leaf_says reason.ReachFallsShort h late = absurd h
    leaf_says reason.ReachNotClosed h late = absurd h
    leaf_says reason.EdgeMissing h late = absurd h
    leaf_says reason.EdgesDiffer h late = absurd h
    leaf_says reason.KidsDiffer h late = absurd h
    leaf_says reason.AnswerNotFirst h late = absurd h
    leaf_says reason.BranchMisses h late = absurd h

    pub leaf_before : (why : Reason) → LeafFails w formula last depth faults says why → (turn_of reason.WrongDepth < turn_of why → depth ≡ last)
        → (other : Reason) → turn_of other < turn_of why → LeafFails w formula last depth faults says other → ⊥
    leaf_before why fails here reason.WrongDepth early h = h (here early)
    leaf_before why fails here reason.SaidToReach early h = both_ways says (leaf_says why fails early) h.0
    leaf_before why fails here reason.SaidToMiss early h = omega (arith, early, leaf_last why fails)
    leaf_before why fails here reason.AnswerNotAllowed early h = h
    leaf_before why fails here reason.ReachFallsShort early h = h
    leaf_before why fails here reason.ReachNotClosed early h = h
    leaf_before why fails here reason.EdgeMissing early h = h
    leaf_before why fails here reason.EdgesDiffer early h = h
    leaf_before why fails here reason.KidsDiffer early h = h
    leaf_before why fails here reason.AnswerNotFirst early h = h
    leaf_before why fails here reason.BranchMisses early h = h

  module _ (faults excluded : List Parts) (reach : List ℕ) (edges : List Parts) (kids : List Node) where
    branch_last : (why : Reason) → BranchFails w b formula last depth faults excluded reach edges kids why → turn_of why ≤ 8
    branch_last reason.WrongDepth h = omega arith
    branch_last reason.BranchMisses h = omega arith
    branch_last reason.ReachFallsShort h = omega arith
    branch_last reason.ReachNotClosed h = omega arith
    branch_last reason.EdgeMissing h = omega arith
    branch_last reason.EdgesDiffer h = omega arith
    branch_last reason.KidsDiffer h = omega arith
    branch_last reason.AnswerNotAllowed h = absurd h
    branch_last reason.SaidToReach h = absurd h
    branch_last reason.SaidToMiss h = absurd h
    branch_last reason.AnswerNotFirst h = absurd h

    -- what a branch passed before it failed
    pub record Passed (why : Reason) : Type 0 where
      pub above : turn_of reason.WrongDepth < turn_of why → depth < last
      pub reaching : turn_of reason.BranchMisses < turn_of why → reaches w faults formula ≡ true
      pub suffices : turn_of reason.ReachFallsShort < turn_of why → Suffices w formula faults reach
      pub closed : turn_of reason.ReachNotClosed < turn_of why → IsClosed w faults reach
      pub tried : turn_of reason.EdgeMissing < turn_of why → (f : Parts) → IsRequired w faults b reach excluded f → Contains edges f
      pub required : turn_of reason.EdgesDiffer < turn_of why → AreRequired w faults b reach excluded edges

    pub branch_before : (why : Reason) → BranchFails w b formula last depth faults excluded reach edges kids why → Passed why
        → (other : Reason) → turn_of other < turn_of why → BranchFails w b formula last depth faults excluded reach edges kids other → ⊥
    branch_before why fails passed reason.WrongDepth early h = let above : depth < last = passed.above early in omega (arith, h)
    branch_before why fails passed reason.BranchMisses early h = both_ways (reaches w faults formula) h (passed.reaching early)
    branch_before why fails passed reason.ReachFallsShort early h = h (passed.suffices early)
    branch_before why fails passed reason.ReachNotClosed early h = h (passed.closed early)
    branch_before why fails passed reason.EdgeMissing early h = h.2 (passed.tried early h.0 h.1)
    branch_before why fails passed reason.EdgesDiffer early h = h (passed.required early)
    branch_before why fails passed reason.KidsDiffer early h = omega (arith, early, branch_last why fails)
    branch_before why fails passed reason.AnswerNotAllowed early h = h
    branch_before why fails passed reason.SaidToReach early h = h
    branch_before why fails passed reason.SaidToMiss early h = h
    branch_before why fails passed reason.AnswerNotFirst early h = h

  -- the same of a place, by its node
  at_node : (p : Place) (y : Node-F Node) (why : Reason) → out-Node p.node ≡ y → NodeFails w b formula last depth p.faults p.excluded y why
      → ((other : Reason) → turn_of other < turn_of why → NodeFails w b formula last depth p.faults p.excluded y other → ⊥)
      → FailsFirst w b formula last depth p why
  at_node p y why opened fails before = record {
    fails = subst (λ z. NodeFails w b formula last depth p.faults p.excluded z why) (sym opened) fails;
    before = λ other early h. before other early (subst (λ z. NodeFails w b formula last depth p.faults p.excluded z other) opened h);
  }

  pub misses_first : (p : Place) (why : Reason) → out-Node p.node ≡ Node-F.Misses → LeafFails w formula last depth p.faults false why
      → (turn_of reason.WrongDepth < turn_of why → depth ≡ last) → FailsFirst w b formula last depth p why
  misses_first p why opened fails here = at_node p Node-F.Misses why opened fails (leaf_before p.faults false why fails here)

  pub reaches_first : (p : Place) (why : Reason) → out-Node p.node ≡ Node-F.Reaches → LeafFails w formula last depth p.faults true why
      → (turn_of reason.WrongDepth < turn_of why → depth ≡ last) → FailsFirst w b formula last depth p why
  reaches_first p why opened fails here = at_node p Node-F.Reaches why opened fails (leaf_before p.faults true why fails here)

  pub branch_first : (p : Place) (reach : List ℕ) (edges : List Parts) (kids : List Node) (why : Reason)
      → out-Node p.node ≡ Node-F.Branch reach edges kids → BranchFails w b formula last depth p.faults p.excluded reach edges kids why
      → Passed p.faults p.excluded reach edges kids why → FailsFirst w b formula last depth p why
  branch_first p reach edges kids why opened fails passed =
      at_node p (Node-F.Branch reach edges kids) why opened fails (branch_before p.faults p.excluded reach edges kids why fails passed)
