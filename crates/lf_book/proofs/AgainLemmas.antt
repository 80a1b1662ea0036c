-- A book keeps as a mere fact that it is closed. What follows from that holds again: there is one such thing, or it is decided.
use mathlib.Core.List.{is_set}
use mathlib.Core.Logic.{∥∥₁_elim, ∥∥₁_map}
use mathlib.Core.Sum.{⊎_set}
use Rattle.std.proofs.Common.{◌≡◌, ℕ, Bool, true, false, List, [], ◌∷◌, length, refl, sym, ◌∙◌, subst, inl, inr}
use Rattle.std.proofs.Math.Bool.{Bool-set}
use Rattle.std.proofs.Math.Nat.{ℕ_set}
use Rattle.std.specs.Coded.{le_prop}
use Rattle.std.specs.Prelude.{◌⊎◌, Option, None, Some}
use Rattle.std.specs.List.{Contains}
use Rattle.lf_list.proofs.Laws.{none-in, Contains-first, Contains-more, cases_in}
use Rattle.lf_faults.specs.declared.fault.Parts.{Parts}
use Rattle.lf_faults.specs.declared.spec.Bounds.{Bounds}
use Rattle.lf_faults.specs.Faults.{set_is_before}
use Rattle.lf_faults.specs.Allowed.{IsAllowed}
use Rattle.lf_faults.proofs.Laws.{allowed_or_not, cases_sets, set_not_itself}
use Rattle.lf_sim.specs.Runs.{World}
use Rattle.lf_outcome.specs.declared.formula.Formula.{Formula}
use Rattle.lf_outcome.specs.declared.point.Point.{Point}
use Rattle.lf_outcome.specs.Evidence.{evidence_of}
use Rattle.lf_outcome.proofs.Laws.{evidence-points}
use Rattle.lf_cone.specs.Cones.{IsSharp, AreRequired}
use Rattle.lf_cone.proofs.Laws.{sharp_exists, sharp_one, required_one, required_exist}
use Rattle.lf_tree.specs.declared.tree.Tree.{Tree}
use Rattle.lf_tree.specs.declared.tree.Node.{Node, out-Node}
use Rattle.lf_tree.specs.declared.tree.Node.TheOpen.{Node-F}
use Rattle.lf_certificate.specs.Accepted.{IsAnswer, IsRightLeaf, last_depth}
use Rattle.lf_certificate.specs.Grown.{IsReachFor, IsGrownNode, IsTreeOf}
use Rattle.lf_marks.specs.Steps.{Mark}
use Rattle.lf_marks.specs.Steps as mark
use Rattle.lf_certificate.specs.Found.{IsFound}
use Rattle.lf_certificate.specs.Levels.{AreAscending, IsLeastSet, AreAllLeast}

reaches_set : IsSet (List ℕ)
reaches_set = is_set ℕ_set

parts_set : IsSet Parts
parts_set = hlevel (ℕ_set, ⊎_set)

faults_set : IsSet (List Parts)
faults_set = is_set parts_set

no-points : {A : Type 0} (x : A) → None ≡ Some x → ⊥
no-points x h = cc

-- whether a set is among others is decided
is_among : (sets : List (List Parts)) (faults : List Parts) → Contains sets faults ⊎ (Contains sets faults → ⊥)
is_among [] faults = inr (λ h. none-in faults h)
is_among (x ∷ xs) faults = elim (cases_sets x faults) [
  | inr (inl same) ↦ inl (subst (Contains (x ∷ xs)) same (Contains-first x xs))
  | inl before ↦ elim (is_among xs faults) [
    | inl later ↦ inl (Contains-more x xs faults later)
    | inr none ↦ inr (λ h. elim (cases_in x xs faults h) [
      | inl same ↦ set_not_itself faults (subst (λ y. set_is_before y faults ≡ true) same before)
      | inr later ↦ none later
    ])
  ]
  | inr (inr after) ↦ elim (is_among xs faults) [
    | inl later ↦ inl (Contains-more x xs faults later)
    | inr none ↦ inr (λ h. elim (cases_in x xs faults h) [
      | inl same ↦ set_not_itself faults (subst (λ y. set_is_before faults y ≡ true) same after)
      | inr later ↦ none later
    ])
  ]
]

among-again : (sets : List (List Parts)) (faults : List Parts) → ∥ Contains sets faults ∥₁ → Contains sets faults
among-again sets faults mere = elim (is_among sets faults) [
  | inl is ↦ is
  | inr none ↦ absurd (∥∥₁_elim mere (λ x y. absurd x) none)
]

allowed-again : (b : Bounds) (faults : List Parts) → ∥ IsAllowed b faults ∥₁ → IsAllowed b faults
allowed-again b faults mere = elim (allowed_or_not b faults) [
  | inl is ↦ is
  | inr never ↦ absurd (∥∥₁_elim mere (λ x y. absurd x) never)
]

module _ {State Note Fact : Type 0} (w : World State Note Fact) (b : Bounds) (formula : Formula Fact) where
  module _ (faults excluded : List Parts) where
    reach-one : (x y : List ℕ) → IsReachFor w b formula faults x → IsReachFor w b formula faults y → x ≡ y
    reach-one x y h k =
        let same : Some h.0 ≡ Some k.0 = sym h.1 ∙ k.1 in
        let points : h.0 ≡ k.0 = cc in
        sharp_one w faults k.0 x y (subst (λ ps. IsSharp w faults ps x) points h.2) k.2

    module _ (reach : List ℕ) (mere : ∥ IsReachFor w b formula faults reach ∥₁) where
      reach-from : (o : Option (List Point)) → evidence_of w faults formula ≡ o → IsReachFor w b formula faults reach
      reach-from None is = absurd (∥∥₁_elim mere (λ x y. absurd x) (λ r. no-points r.0 (sym is ∙ r.1)))
      reach-from (Some points) is =
          let made = sharp_exists w faults points (λ p c. let at = evidence-points w faults formula points is p c in (at.0, at.2)) in
          let here : IsReachFor w b formula faults made.0 = (points, is, made.1) in
          subst (IsReachFor w b formula faults) (∥∥₁_elim mere (reaches_set made.0 reach) (λ r. reach-one made.0 reach here r)) here

      reach-again : IsReachFor w b formula faults reach
      reach-again = reach-from (evidence_of w faults formula) refl

    edges-again : (reach : List ℕ) (edges : List Parts) → ∥ AreRequired w faults b reach excluded edges ∥₁
        → AreRequired w faults b reach excluded edges
    edges-again reach edges mere =
        let made = required_exist w faults b reach excluded in
        subst (AreRequired w faults b reach excluded)
        (∥∥₁_elim mere (faults_set made.0 edges) (λ are. required_one w faults b reach excluded made.0 edges made.1 are)) made.1

    -- what was found of a set
    pub found-again : (m : Mark) → ∥ IsFound w b formula faults excluded m ∥₁ → IsFound w b formula faults excluded m
    found-again mark.Waiting mere = ∥∥₁_elim mere (λ x y. absurd x) (λ h. h)
    found-again mark.Open mere = ∥∥₁_elim mere (λ x y. absurd x) (λ h. h)
    found-again (mark.Claimed t) mere = ∥∥₁_elim mere (λ x y. absurd x) (λ h. h)
    found-again mark.Misses mere = ∥∥₁_elim mere (hlevel Bool-set) (λ h. h)
    found-again mark.Reaches mere = record {
      full = ∥∥₁_elim mere le_prop (λ h. h.full);
      reaching = ∥∥₁_elim mere (hlevel Bool-set) (λ h. h.reaching);
    }
    found-again (mark.Branch reach edges) mere = record {
      room = ∥∥₁_elim mere (hlevel le_prop) (λ h. h.room);
      sharp = reach-again reach (∥∥₁_map mere (λ h. h.sharp));
      required = edges-again reach edges (∥∥₁_map mere (λ h. h.required));
    }

    leaf-again : (last depth : ℕ) (says : Bool) → ∥ IsRightLeaf w b formula last depth faults says ∥₁ → IsRightLeaf w b formula last depth faults says
    leaf-again last depth says mere = record {
      here = ∥∥₁_elim mere (hlevel ℕ_set) (λ h. h.here);
      truth = ∥∥₁_elim mere (hlevel Bool-set) (λ h. h.truth);
    }

    node-again : (last depth : ℕ) (n : Node-F Node) → ∥ IsGrownNode w b formula last depth faults excluded n ∥₁
        → IsGrownNode w b formula last depth faults excluded n
    node-again last depth Node-F.Misses mere = leaf-again last depth false mere
    node-again last depth Node-F.Reaches mere = leaf-again last depth true mere
    node-again last depth (Node-F.Branch reach edges kids) mere = record {
      above = ∥∥₁_elim mere (hlevel le_prop) (λ h. h.above);
      sharp = reach-again reach (∥∥₁_map mere (λ h. h.sharp));
      required = edges-again reach edges (∥∥₁_map mere (λ h. h.required));
      each = ∥∥₁_elim mere (hlevel ℕ_set) (λ h. h.each);
    }

  -- the answer
  pub answer-again : (answer : Option (List Parts)) → ∥ IsAnswer w b formula answer ∥₁ → IsAnswer w b formula answer
  answer-again None mere = λ other allowed. ∥∥₁_elim mere (hlevel Bool-set) (λ h. h other allowed)
  answer-again (Some found) mere = (
    allowed-again b found (∥∥₁_map mere (λ h. h.0)),
    ∥∥₁_elim mere (hlevel Bool-set) (λ h. h.1),
    λ other allowed misses. ∥∥₁_elim mere (hlevel Bool-set) (λ h. h.2 other allowed misses),
  )

  -- the tree
  pub tree-again : (tree : Tree) → ∥ IsTreeOf w b formula tree ∥₁ → IsTreeOf w b formula tree
  tree-again tree mere = record {
    answer = answer-again tree.answer (∥∥₁_map mere (λ h. h.answer));
    places = λ path p leads.
        node-again p.faults p.excluded (last_depth b tree.answer) (length path) (out-Node p.node) (∥∥₁_map mere (λ h. h.places path p leads));
  }

  -- and the least sets
  least-again : (faults : List Parts) → ∥ IsLeastSet w b formula faults ∥₁ → IsLeastSet w b formula faults
  least-again faults mere = record {
    allowed = allowed-again b faults (∥∥₁_map mere (λ h. h.allowed));
    misses = ∥∥₁_elim mere (hlevel Bool-set) (λ h. h.misses);
    fewest = λ other allowed misses. ∥∥₁_elim mere le_prop (λ h. h.fewest other allowed misses);
  }

  pub all-least-again : (sets : List (List Parts)) → AreAscending sets → ∥ AreAllLeast w b formula sets ∥₁ → AreAllLeast w b formula sets
  all-least-again sets ascending mere = record {
    ascending = ascending;
    each = λ faults. (
      λ h. least-again faults (∥∥₁_map mere (λ l. (l.each faults).0 h)),
      λ h. among-again sets faults (∥∥₁_map mere (λ l. (l.each faults).1 h)),
    );
  }
