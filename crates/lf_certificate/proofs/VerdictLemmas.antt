-- A tree is accepted or has a first fault.
use Rattle.std.proofs.Common.{ℕ, List, [], refl, inl, inr}
use Rattle.std.specs.Prelude.{◌⊎◌, ◌↔◌}
use Rattle.lf_faults.specs.declared.spec.Bounds.{Bounds}
use Rattle.lf_sim.specs.Runs.{World}
use Rattle.lf_outcome.specs.declared.formula.Formula.{Formula}
use Rattle.lf_tree.specs.declared.tree.Tree.{Tree}
use Rattle.lf_certificate.specs.declared.reason.Reason.{Reason}
use Rattle.lf_certificate.specs.declared.reason.Reason.TheVariants as reason
use Rattle.lf_certificate.specs.Places.{root_of}
use Rattle.lf_certificate.specs.Accepted.{IsAccepted, IsAllowedAnswer, IsFirstIn, AreRight, last_depth}
use Rattle.lf_certificate.specs.Faults.{FailsFirstFrom, IsFirstFault}
use Rattle.lf_certificate.proofs.AnswersLemmas.{allowed_answer_or_not, first_in_or_not}
use Rattle.lf_certificate.proofs.FirstsLemmas.{right_or_fails_from, places_right, none_fails}
use Rattle.lf_certificate.proofs.FaultsLemmas.{fault_at_place, accepted_has_none}

module _ {State Note Fact : Type 0} (w : World State Note Fact) (b : Bounds) (formula : Formula Fact) (tree : Tree) where
  -- The verdict, by what is wrong with the answer at the start, with the root and all beneath it, with the answer at the end
  pub fault_at_start : (IsAllowedAnswer b tree.answer → ⊥) → IsFirstFault w b formula tree reason.AnswerNotAllowed []
  fault_at_start never = (refl, never)

  pub fault_beneath_root : (why : Reason) (path : List ℕ) → IsAllowedAnswer b tree.answer
      → FailsFirstFrom w b formula (last_depth b tree.answer) 0 (root_of tree) why path → IsFirstFault w b formula tree why path
  fault_beneath_root why path allowed found =
      fault_at_place w b formula tree why path allowed found

  pub fault_at_end : IsAllowedAnswer b tree.answer → AreRight w b formula (last_depth b tree.answer) 0 (root_of tree)
      → (IsFirstIn w b formula tree tree.answer → ⊥) → IsFirstFault w b formula tree reason.AnswerNotFirst []
  fault_at_end allowed right never = (refl, allowed, none_fails w b formula tree right, never)

  pub accepted_where : IsAllowedAnswer b tree.answer → AreRight w b formula (last_depth b tree.answer) 0 (root_of tree)
      → IsFirstIn w b formula tree tree.answer → IsAccepted w b formula tree
  accepted_where allowed right first = record { allowed = allowed; places = places_right w b formula tree right; first = first }

  -- So a tree is accepted or has a first fault,
  pub accepted_or_fault : IsAccepted w b formula tree ⊎ ((why : Reason) × (path : List ℕ) × IsFirstFault w b formula tree why path)
  accepted_or_fault = elim (allowed_answer_or_not w b formula tree.answer) [
    | inr never ↦ inr (reason.AnswerNotAllowed, [], fault_at_start never)
    | inl allowed ↦ elim (right_or_fails_from w b formula (last_depth b tree.answer) 0 (root_of tree)) [
      | inr found ↦ inr (found.0, found.1, fault_beneath_root found.0 found.1 allowed found.2)
      | inl right ↦ elim (first_in_or_not w b formula tree) [
        | inr never ↦ inr (reason.AnswerNotFirst, [], fault_at_end allowed right never)
        | inl first ↦ inl (accepted_where allowed right first)
      ]
    ]
  ]

  -- and it has none exactly where it is accepted
  pub accepted_iff : ((why : Reason) (path : List ℕ) → IsFirstFault w b formula tree why path → ⊥) ↔ IsAccepted w b formula tree
  accepted_iff = (
    λ none. elim accepted_or_fault [
      | inl accepted ↦ accepted
      | inr found ↦ absurd (none found.0 found.1 found.2)
    ],
    λ accepted. accepted_has_none w b formula tree accepted,
  )
