-- Nodes by their kinds, and what is wrong with them first.
use Rattle.std.proofs.Common.{◌≡◌, ℕ, Bool, true, false, List, refl, sym, ap, ◌∙◌, subst, arith}
use Rattle.std.specs.Prelude.{Option, None, Some, MatchOption, Result, Ok, Err, IfOk, OnOk}
use Rattle.std.specs.Option.{is_some}
use Rattle.lf_faults.specs.declared.fault.Parts.{Parts}
use Rattle.lf_faults.specs.declared.spec.Bounds.{Bounds}
use Rattle.lf_sim.specs.Runs.{World}
use Rattle.lf_outcome.specs.declared.formula.Formula.{Formula}
use Rattle.lf_tree.specs.declared.tree.Node.{Node, out-Node, out-roll-Node}
use Rattle.lf_tree.specs.declared.tree.Node.TheVariants.{rolls-Misses, rolls-Reaches, rolls-Branch}
use Rattle.lf_tree.specs.declared.tree.Node.TheVariants as kind
use Rattle.lf_tree.specs.declared.tree.Node.TheOpen.{Node-F}
use Rattle.lf_outcome.specs.Truth.{reaches}
use Rattle.lf_certificate.specs.declared.reason.Reason.{Reason}
use Rattle.lf_certificate.specs.declared.reason.Reason.TheVariants as reason
use Rattle.lf_certificate.specs.Places.{Place}
use Rattle.lf_certificate.specs.Accepted.{IsRightLeaf, IsRightBranch, IsRightNode, IsRight}
use Rattle.lf_certificate.proofs.Laws.{branch_first}
use Rattle.lf_check.specs.Nodes.{place_of, IsFaultAt, FirstOfLeaf, FirstOfBranch, said_wrongly}

pub opened-Misses : (node : Node) → node ≡ kind.Misses → out-Node node ≡ Node-F.Misses
opened-Misses node is = ap out-Node (is ∙ sym rolls-Misses) ∙ out-roll-Node Node-F.Misses

pub opened-Reaches : (node : Node) → node ≡ kind.Reaches → out-Node node ≡ Node-F.Reaches
opened-Reaches node is = ap out-Node (is ∙ sym rolls-Reaches) ∙ out-roll-Node Node-F.Reaches

pub opened-Branch : (node : Node) (reach : List ℕ) (edges : List Parts) (kids : List Node) → node ≡ kind.Branch reach edges kids
    → out-Node node ≡ Node-F.Branch reach edges kids
opened-Branch node reach edges kids is = ap out-Node (is ∙ sym (rolls-Branch reach edges kids)) ∙ out-roll-Node (Node-F.Branch reach edges kids)

-- a branch, by lists that are its edges and its kids
pub given-Branch : (node : Node) (reach : List ℕ) (edges given : List Parts) (kids nodes : List Node) → node ≡ kind.Branch reach edges kids
    → given ≡ edges → nodes ≡ kids → node ≡ kind.Branch reach given nodes
given-Branch node reach edges given kids nodes is same_edges same_kids =
    is ∙ ap (λ xs. kind.Branch reach xs kids) (sym same_edges) ∙ ap (λ xs. kind.Branch reach given xs) (sym same_kids)

module _ {State Note Fact : Type 0} (w : World State Note Fact) (b : Bounds) (formula : Formula Fact) (last depth : ℕ) (p : Place) where
  right : (y : Node-F Node) → out-Node p.node ≡ y → IsRightNode w b formula last depth p.faults p.excluded y → IsRight w b formula last depth p
  right y opened h = subst (IsRightNode w b formula last depth p.faults p.excluded) (sym opened) h

  fault-Branch : (reach : List ℕ) (edges : List Parts) (kids : List Node) (found : Option Reason) → p.node ≡ kind.Branch reach edges kids
      → MatchOption found (IsRightBranch w b formula last depth p.faults p.excluded reach edges kids)
      (FirstOfBranch w b formula last depth p.faults p.excluded reach edges kids)
      → IsFaultAt w b formula last depth p found
  fault-Branch reach edges kids None is h = right (Node-F.Branch reach edges kids) (opened-Branch p.node reach edges kids is) h
  fault-Branch reach edges kids (Some why) is h =
      branch_first w b formula last depth p reach edges kids why (opened-Branch p.node reach edges kids is) h.fails h.above h.reaching h.suffices
      h.closed h.tried h.required

  -- what is found of a branch is found of its place
  pub branch-found : {E : Type 0} (result : Result (Option Reason) E) (reach : List ℕ) (edges given : List Parts) (kids nodes : List Node)
      → p.node ≡ kind.Branch reach edges kids → given ≡ edges → nodes ≡ kids
      → IfOk result (λ found. MatchOption found (IsRightBranch w b formula last depth p.faults p.excluded reach given nodes)
      (FirstOfBranch w b formula last depth p.faults p.excluded reach given nodes))
      → IfOk result (IsFaultAt w b formula last depth p)
  branch-found (Ok found) reach edges given kids nodes is same_edges same_kids h =
      fault-Branch reach given nodes found (given-Branch p.node reach edges given kids nodes is same_edges same_kids) h
  branch-found (Err e) reach edges given kids nodes is same_edges same_kids h = tt

-- what holds however it went, if there is a value
pub on-ok : {A E P : Type 0} (result : Result A E) → P → OnOk result P
on-ok (Ok x) p = p
on-ok (Err e) p = tt

-- what follows from what is found follows of the result
pub ok_then : {A E : Type 0} (result : Result A E) (P Q : A → Type 0) → IfOk result P → ((x : A) → P x → Q x) → IfOk result Q
ok_then (Ok x) P Q h more = more x h
ok_then (Err e) P Q h more = tt

-- what is found at a place, of the run's set and the list that stands for what is excluded
pub found-at : {State Note Fact : Type 0} (w : World State Note Fact) (b : Bounds) (formula : Formula Fact) (last depth : ℕ) (node : Node)
    (faults set given excluded : List Parts) (found : Option Reason) → faults ≡ set → given ≡ excluded
    → IsFaultAt w b formula last depth (place_of node faults given) found → IsFaultAt w b formula last depth (place_of node set excluded) found
found-at w b formula last depth node faults set given excluded found same_set same_list h =
    subst (λ x. IsFaultAt w b formula last depth (place_of node set x) found) same_list
    (subst (λ s. IsFaultAt w b formula last depth (place_of node s given) found) same_set h)

module _ {State Note Fact : Type 0} (w : World State Note Fact) (b : Bounds) (formula : Formula Fact) (last depth : ℕ) (p : Place) where
  -- nothing is wrong: it is right
  pub right-none : (found : Option Reason) → is_some found ≡ false → IsFaultAt w b formula last depth p found → IsRight w b formula last depth p
  right-none None none h = h
  right-none (Some why) none h = let never : ⊥ = cc in absurd never

  -- a branch that is right
  pub right-Branch : (reach : List ℕ) (edges : List Parts) (kids : List Node) → p.node ≡ kind.Branch reach edges kids
      → IsRight w b formula last depth p → IsRightBranch w b formula last depth p.faults p.excluded reach edges kids
  right-Branch reach edges kids is h =
      subst (IsRightNode w b formula last depth p.faults p.excluded) (opened-Branch p.node reach edges kids is) h

-- a leaf that isn't at the last depth, and what is wrong with one that is
module _ {State Note Fact : Type 0} (w : World State Note Fact) (b : Bounds) (formula : Formula Fact) (last depth : ℕ) (faults : List Parts) where
  pub leaf-deep : (says : Bool) → (depth ≡ last → ⊥) → FirstOfLeaf w formula last depth faults says reason.WrongDepth
  leaf-deep says other = record { fails = other; here = λ later. let never : ⊥ = omega (arith, later) in absurd never }

  leaf-says : (says reaching : Bool) → depth ≡ last → reaching ≡ reaches w faults formula
      → MatchOption (said_wrongly says reaching) (IsRightLeaf w b formula last depth faults says) (FirstOfLeaf w formula last depth faults says)
  leaf-says true true here is = record { here = here; truth = sym is }
  leaf-says true false here is = record { fails = (refl, sym is); here = λ _. here }
  leaf-says false true here is = record { fails = (refl, sym is); here = λ _. here }
  leaf-says false false here is = record { here = here; truth = sym is }

  pub leaf-found : (says reaching : Bool) (found : Option Reason) → depth ≡ last → reaching ≡ reaches w faults formula
      → found ≡ said_wrongly says reaching
      → MatchOption found (IsRightLeaf w b formula last depth faults says) (FirstOfLeaf w formula last depth faults says)
  leaf-found says reaching found here is same =
      subst (λ x. MatchOption x (IsRightLeaf w b formula last depth faults says) (FirstOfLeaf w formula last depth faults says)) (sym same)
      (leaf-says says reaching here is)
