-- What a walk from the root says of a tree.
use Rattle.std.proofs.Common.{◌≡◌, ℕ, List, [], ◌++◌, sym, ap, ◌∙◌, subst}
use Rattle.std.specs.Prelude.{Option, None, Some, MatchOption}
use Rattle.lf_faults.specs.declared.fault.Parts.{Parts}
use Rattle.lf_faults.specs.declared.spec.Bounds.{Bounds}
use Rattle.lf_faults.specs.Allowed.{IsAllowed}
use Rattle.lf_sim.specs.Runs.{World}
use Rattle.lf_outcome.specs.declared.formula.Formula.{Formula}
use Rattle.lf_tree.specs.declared.tree.Tree.{Tree}
use Rattle.lf_certificate.specs.declared.reason.Reason.{Reason}
use Rattle.lf_certificate.specs.declared.reason.Reason.TheVariants as reason
use Rattle.lf_certificate.specs.Places.{root_of}
use Rattle.lf_certificate.specs.Accepted.{IsAccepted, IsAllowedAnswer, IsFirstIn, MissesFrom, last_depth}
use Rattle.lf_certificate.specs.Faults.{FailsFirstFrom, IsFirstFault}
use Rattle.lf_certificate.proofs.Laws as laws
use Rattle.lf_check.specs.Nodes.{place_of}
use Rattle.lf_check.specs.Walks.{Stand, Lowers, IsWalkFrom}
use Rattle.lf_check.proofs.WalkLemmas.{first_in}

module _ {State Note Fact : Type 0} (w : World State Note Fact) (b : Bounds) (formula : Formula Fact) (tree : Tree) where
  of_answer : (answer : Option (List Parts)) → MatchOption answer (Unit {0}) (IsAllowed b) → IsAllowedAnswer b answer
  of_answer None h = tt
  of_answer (Some answer) h = h

  abbrev FromRoot : Stand → Stand → Option Reason → Type 0
  FromRoot = IsWalkFrom w b formula (last_depth b tree.answer) 0 (root_of tree)

  -- a walk from the root
  pub from-root : (last : ℕ) (set given : List Parts) (old new : Stand) (found : Option Reason) → last ≡ last_depth b tree.answer → set ≡ []
      → given ≡ [] → IsWalkFrom w b formula last 0 (place_of tree.root set given) old new found → FromRoot old new found
  from-root last set given old new found same_last same_set same_list h =
      subst (λ x. IsWalkFrom w b formula (last_depth b tree.answer) 0 (place_of tree.root [] x) old new found) same_list
      (subst (λ s. IsWalkFrom w b formula (last_depth b tree.answer) 0 (place_of tree.root s given) old new found) same_set
      (subst (λ d. IsWalkFrom w b formula d 0 (place_of tree.root set given) old new found) same_last h))

  module _ (allowed : MatchOption tree.answer (Unit {0}) (IsAllowed b)) (old new : Stand)
      (start : old ≡ record { excluded = []; path = []; first = None }) where
    by_fault : (why : Reason) → FromRoot old new (Some why) → IsFirstFault w b formula tree why new.path
    by_fault why h =
        laws.fault_beneath_root w b formula tree why new.path (of_answer tree.answer allowed)
        (subst (FailsFirstFrom w b formula (last_depth b tree.answer) 0 (root_of tree) why)
        (sym (h.2 ∙ ap (λ (s : Stand). s.path ++ h.0) start)) h.1)

    -- what fails first is the tree's first fault
    pub first-fault : (found : Option Reason) (why : Reason) → found ≡ Some why → FromRoot old new found → IsFirstFault w b formula tree why new.path
    first-fault found why is h = by_fault why (subst (FromRoot old new) is h)

    first : FromRoot old new None → IsFirstIn w b formula tree new.first
    first h =
        first_in w b formula tree new.first
        (subst (λ (s : Stand). Lowers (MissesFrom w formula (last_depth b tree.answer) 0 (root_of tree)) s.first new.first) start h.1.first)

    -- where nothing fails, the answer may be another than the first of the sets that miss,
    pub answer-fault : (found : Option Reason) → found ≡ None → FromRoot old new found → (new.first ≡ tree.answer → ⊥) → (path : List ℕ) → path ≡ []
        → IsFirstFault w b formula tree reason.AnswerNotFirst path
    answer-fault found is walked other path empty =
        let h : FromRoot old new None = subst (FromRoot old new) is walked in
        subst (IsFirstFault w b formula tree reason.AnswerNotFirst) (sym empty)
        (laws.fault_at_end w b formula tree (of_answer tree.answer allowed) h.0
        (λ k. other (laws.first_in_one w b formula tree new.first tree.answer (first h) k)))

    -- or else the tree is accepted
    pub accepted : (found : Option Reason) → found ≡ None → FromRoot old new found → new.first ≡ tree.answer → IsAccepted w b formula tree
    accepted found is walked same =
        let h : FromRoot old new None = subst (FromRoot old new) is walked in
        laws.accepted_where w b formula tree (of_answer tree.answer allowed) h.0 (subst (IsFirstIn w b formula tree) same (first h))
