-- What a checker is to say of a node, of a leaf and of a branch.
use Rattle.std.specs.Prelude.{◌≡◌, ◌⊎◌, ℕ, ◌<◌, Bool, true, false, List, Option, None, Some, MatchOption}
use Rattle.std.specs.List.{Contains}
use Rattle.lf_faults.specs.declared.fault.Parts.{Parts}
use Rattle.lf_faults.specs.declared.spec.Bounds.{Bounds}
use Rattle.lf_sim.specs.Runs.{World}
use Rattle.lf_outcome.specs.declared.formula.Formula.{Formula}
use Rattle.lf_outcome.specs.Truth.{reaches}
use Rattle.lf_cone.specs.Cones.{IsClosed, IsRequired, AreRequired}
use Rattle.lf_tree.specs.declared.tree.Node.{Node}
use Rattle.lf_certificate.specs.declared.reason.Reason.{Reason}
use Rattle.lf_certificate.specs.declared.reason.Reason.TheVariants as reason
use Rattle.lf_certificate.specs.Places.{Place}
use Rattle.lf_certificate.specs.Accepted.{IsRight}
use Rattle.lf_certificate.specs.Faults.{turn_of, LeafFails, Suffices, BranchFails, FailsFirst}

-- a node that speaks of a set, with what is excluded there
abbrev pub place_of : Node → List Parts → List Parts → Place
place_of node faults excluded = record { node = node; faults = faults; excluded = excluded }

-- what is wrong with what a leaf says, by whether its set reaches
abbrev pub said_wrongly : Bool → Bool → Option Reason
said_wrongly true true = None
said_wrongly true false = Some reason.SaidToReach
said_wrongly false true = Some reason.SaidToMiss
said_wrongly false false = None

module _ {State Note Fact : Type 0} (w : World State Note Fact) (b : Bounds) where
  -- the edges of a branch are wrong by this reason, and by none before it
  abbrev pub FirstOfEdges : List Parts → List Parts → List ℕ → List Parts → Reason → Type 0
  FirstOfEdges faults excluded reach edges why =
      ((why ≡ reason.EdgeMissing) × ((f : Parts) × IsRequired w faults b reach excluded f × (¬ Contains edges f)))
      ⊎ ((why ≡ reason.EdgesDiffer) × ((f : Parts) → IsRequired w faults b reach excluded f → Contains edges f)
      × (¬ AreRequired w faults b reach excluded edges))

module _ {State Note Fact : Type 0} (w : World State Note Fact) (formula : Formula Fact) where
  -- a leaf fails by this reason, and by none before it
  pub record FirstOfLeaf (last depth : ℕ) (faults : List Parts) (says : Bool) (why : Reason) : Type 0 where
    pub fails : LeafFails w formula last depth faults says why
    pub here : turn_of reason.WrongDepth < turn_of why → depth ≡ last

  -- the reach of a branch is wrong by this reason, and by none before it
  abbrev pub FirstOfReach : List Parts → List ℕ → Reason → Type 0
  FirstOfReach faults reach why =
      ((why ≡ reason.ReachFallsShort) × (¬ Suffices w formula faults reach))
      ⊎ ((why ≡ reason.ReachNotClosed) × Suffices w formula faults reach × (¬ IsClosed w faults reach))

module _ {State Note Fact : Type 0} (w : World State Note Fact) (b : Bounds) (formula : Formula Fact) where
  -- what is wrong first at a place so far down, or nothing where it is right
  abbrev pub IsFaultAt : ℕ → ℕ → Place → Option Reason → Type 0
  IsFaultAt last depth p found = MatchOption found (IsRight w b formula last depth p) (FailsFirst w b formula last depth p)

  -- a branch fails by this reason, and by none before it
  pub record FirstOfBranch (last depth : ℕ) (faults excluded : List Parts) (reach : List ℕ) (edges : List Parts) (kids : List Node)
      (why : Reason) : Type 0 where
    pub fails : BranchFails w b formula last depth faults excluded reach edges kids why
    pub above : turn_of reason.WrongDepth < turn_of why → depth < last
    pub reaching : turn_of reason.BranchMisses < turn_of why → reaches w faults formula ≡ true
    pub suffices : turn_of reason.ReachFallsShort < turn_of why → Suffices w formula faults reach
    pub closed : turn_of reason.ReachNotClosed < turn_of why → IsClosed w faults reach
    pub tried : turn_of reason.EdgeMissing < turn_of why → (f : Parts) → IsRequired w faults b reach excluded f → Contains edges f
    pub required : turn_of reason.EdgesDiffer < turn_of why → AreRequired w faults b reach excluded edges
