-- First faults of a tree: an accepted tree has none, and there is at most one.
use Rattle.std.proofs.Common.{◌≡◌, ℕ, ◌+◌, true, List, [], length}
use Rattle.std.proofs.Common.{refl, sym, ap, ◌∙◌, subst, arith, inl, inr}
use Rattle.std.specs.Prelude.{◌⊎◌}
use Rattle.std.specs.declared.cmp.Ordering.{Ordering}
use Rattle.std.specs.declared.cmp.Ordering.TheVariants.{Less, Equal, Greater}
use Rattle.std.specs.Ordering.{nat_cmp, ordering_reverse, is_lt}
use Rattle.std.specs.Cmp.Lexicographic.{slice_cmp}
use Rattle.std.proofs.lemmas.Cmp.{nat_list_cmp_total}
use Rattle.std.proofs.lemmas.Map.Lookups.{exact_bytes}
use Rattle.lf_faults.specs.declared.spec.Bounds.{Bounds}
use Rattle.lf_sim.specs.Runs.{World}
use Rattle.lf_outcome.specs.declared.formula.Formula.{Formula}
use Rattle.lf_tree.specs.declared.tree.Tree.{Tree}
use Rattle.lf_certificate.specs.declared.reason.Reason.{Reason}
use Rattle.lf_certificate.specs.declared.reason.Reason.TheVariants as reason
use Rattle.lf_certificate.specs.Places.{place_at}
use Rattle.lf_certificate.specs.Accepted.{IsAccepted, IsAllowedAnswer, IsFirstIn, IsRight, last_depth}
use Rattle.lf_certificate.specs.Faults.{path_is_before, Fails, FailsFirst, IsFirstFailing, NoneFails, IsFirstFault}
use Rattle.lf_certificate.proofs.AllowedLemmas.{some-one}
use Rattle.lf_certificate.proofs.ReasonLemmas.{not_allowed_nowhere, not_first_nowhere, right_fails_not, first_reason_one}

cases_Ordering : (o : Ordering) → (o ≡ Less) ⊎ ((o ≡ Equal) ⊎ (o ≡ Greater))
cases_Ordering Less = inl refl
cases_Ordering Equal = inr (inl refl)
cases_Ordering Greater = inr (inr refl)

-- of two paths one comes before the other, or they are one
pub cases_paths : (p q : List ℕ) → (path_is_before p q ≡ true) ⊎ ((p ≡ q) ⊎ (path_is_before q p ≡ true))
cases_paths p q = elim (cases_Ordering (slice_cmp nat_cmp p q)) [
  | inl less ↦ inl (ap is_lt less)
  | inr rest ↦ elim rest [
    | inl equal ↦ inr (inl (exact_bytes p q equal))
    | inr greater ↦ inr (inr (ap is_lt (nat_list_cmp_total.antisymm q p ∙ ap ordering_reverse greater)))
  ]
]

module _ {State Note Fact : Type 0} (w : World State Note Fact) (b : Bounds) (formula : Formula Fact) (tree : Tree) where
  -- A first fault is one of three: the answer's at the start, a place's, or the answer's at the end
  pub record AtStart (why : Reason) (path : List ℕ) : Type 0 where
    pub is : why ≡ reason.AnswerNotAllowed
    pub root : path ≡ []
    pub never : IsAllowedAnswer b tree.answer → ⊥

  pub record AtPlace (why : Reason) (path : List ℕ) : Type 0 where
    pub allowed : IsAllowedAnswer b tree.answer
    pub fails : IsFirstFailing w b formula tree why path

  pub record AtEnd (why : Reason) (path : List ℕ) : Type 0 where
    pub is : why ≡ reason.AnswerNotFirst
    pub root : path ≡ []
    pub allowed : IsAllowedAnswer b tree.answer
    pub none : NoneFails w b formula tree
    pub never : IsFirstIn w b formula tree tree.answer → ⊥

  pub cases_fault : (why : Reason) (path : List ℕ) → IsFirstFault w b formula tree why path → AtStart why path ⊎ (AtPlace why path ⊎ AtEnd why path)
  cases_fault reason.AnswerNotAllowed path h = inl (record { is = refl; root = h.0; never = h.1 })
  cases_fault reason.AnswerNotFirst path h = inr (inr (record { is = refl; root = h.0; allowed = h.1; none = h.2; never = h.3 }))
  cases_fault reason.WrongDepth path h = inr (inl (record { allowed = h.0; fails = h.1 }))
  cases_fault reason.SaidToReach path h = inr (inl (record { allowed = h.0; fails = h.1 }))
  cases_fault reason.SaidToMiss path h = inr (inl (record { allowed = h.0; fails = h.1 }))
  cases_fault reason.BranchMisses path h = inr (inl (record { allowed = h.0; fails = h.1 }))
  cases_fault reason.ReachFallsShort path h = inr (inl (record { allowed = h.0; fails = h.1 }))
  cases_fault reason.ReachNotClosed path h = inr (inl (record { allowed = h.0; fails = h.1 }))
  cases_fault reason.EdgeMissing path h = inr (inl (record { allowed = h.0; fails = h.1 }))
  cases_fault reason.EdgesDiffer path h = inr (inl (record { allowed = h.0; fails = h.1 }))
  cases_fault reason.KidsDiffer path h = inr (inl (record { allowed = h.0; fails = h.1 }))

  -- An accepted tree has none
  none_here : IsAccepted w b formula tree → (why : Reason) (path : List ℕ) → IsFirstFailing w b formula tree why path → ⊥
  none_here accepted why path x =
      let deep : length path ≡ 0 + length path = omega arith in
      right_fails_not w b formula (last_depth b tree.answer) (0 + length path) x.place
      (subst (λ d. IsRight w b formula (last_depth b tree.answer) d x.place) deep (accepted.places path x.place x.leads)) why x.fails.fails

  pub accepted_has_none : IsAccepted w b formula tree → (why : Reason) (path : List ℕ) → IsFirstFault w b formula tree why path → ⊥
  accepted_has_none accepted why path h = elim (cases_fault why path h) [
    | inl start ↦ start.never accepted.allowed
    | inr rest ↦ elim rest [
      | inl here ↦ none_here accepted why path here.fails
      | inr end ↦ end.never accepted.first
    ]
  ]

  -- there is one first failing place, with one first reason,
  failing_one : (why other : Reason) (path there : List ℕ) → IsFirstFailing w b formula tree why path → IsFirstFailing w b formula tree other there
      → (why ≡ other) × (path ≡ there)
  failing_one why other path there x y = elim (cases_paths path there) [
    | inl early ↦ absurd (y.before path x.place early x.leads why x.fails.fails)
    | inr rest ↦ elim rest [
      | inl same ↦
          let place : x.place ≡ y.place = some-one x.place y.place (sym x.leads ∙ ap (λ q. place_at tree q) same ∙ y.leads) in
          let moved : FailsFirst w b formula (last_depth b tree.answer) (0 + length there) y.place why =
          subst (λ q. FailsFirst w b formula (last_depth b tree.answer) (0 + length there) q why) place
          (subst (λ q. FailsFirst w b formula (last_depth b tree.answer) (0 + length q) x.place why) same x.fails) in
          (first_reason_one w b formula (last_depth b tree.answer) (0 + length there) y.place why other moved y.fails, same)
      | inr late ↦ absurd (x.before there y.place late y.leads other y.fails.fails)
    ]
  ]

  -- so two first faults are one
  place_end : (why : Reason) (path : List ℕ) → IsFirstFailing w b formula tree why path → NoneFails w b formula tree → ⊥
  place_end why path x none =
      let flat : 0 + length path ≡ length path = omega arith in
      none path x.place x.leads why (subst (λ d. Fails w b formula (last_depth b tree.answer) d x.place why) flat x.fails.fails)

  module _ (why other : Reason) (path there : List ℕ) where
    from_start : AtStart why path → AtStart other there ⊎ (AtPlace other there ⊎ AtEnd other there) → (why ≡ other) × (path ≡ there)
    from_start x (inl y) = (x.is ∙ sym y.is, x.root ∙ sym y.root)
    from_start x (inr (inl y)) = absurd (x.never y.allowed)
    from_start x (inr (inr y)) = absurd (x.never y.allowed)

    from_place : AtPlace why path → AtStart other there ⊎ (AtPlace other there ⊎ AtEnd other there) → (why ≡ other) × (path ≡ there)
    from_place x (inl y) = absurd (y.never x.allowed)
    from_place x (inr (inl y)) = failing_one why other path there x.fails y.fails
    from_place x (inr (inr y)) = absurd (place_end why path x.fails y.none)

    from_end : AtEnd why path → AtStart other there ⊎ (AtPlace other there ⊎ AtEnd other there) → (why ≡ other) × (path ≡ there)
    from_end x (inl y) = absurd (y.never x.allowed)
    from_end x (inr (inl y)) = absurd (place_end other there y.fails x.none)
    from_end x (inr (inr y)) = (x.is ∙ sym y.is, x.root ∙ sym y.root)

    pub first_fault_one : IsFirstFault w b formula tree why path → IsFirstFault w b formula tree other there → (why ≡ other) × (path ≡ there)
    first_fault_one x y = elim (cases_fault why path x) [
      | inl start ↦ from_start start (cases_fault other there y)
      | inr rest ↦ elim rest [
        | inl here ↦ from_place here (cases_fault other there y)
        | inr end ↦ from_end end (cases_fault other there y)
      ]
    ]

  -- What a first fault is made of
  pub fault_at_place : (why : Reason) (path : List ℕ) → IsAllowedAnswer b tree.answer → IsFirstFailing w b formula tree why path
      → IsFirstFault w b formula tree why path
  fault_at_place reason.AnswerNotAllowed path allowed x =
      absurd (not_allowed_nowhere w b formula (last_depth b tree.answer) (0 + length path) x.place x.fails.fails)
  fault_at_place reason.AnswerNotFirst path allowed x =
      absurd (not_first_nowhere w b formula (last_depth b tree.answer) (0 + length path) x.place x.fails.fails)
  fault_at_place reason.WrongDepth path allowed x = (allowed, x)
  fault_at_place reason.SaidToReach path allowed x = (allowed, x)
  fault_at_place reason.SaidToMiss path allowed x = (allowed, x)
  fault_at_place reason.BranchMisses path allowed x = (allowed, x)
  fault_at_place reason.ReachFallsShort path allowed x = (allowed, x)
  fault_at_place reason.ReachNotClosed path allowed x = (allowed, x)
  fault_at_place reason.EdgeMissing path allowed x = (allowed, x)
  fault_at_place reason.EdgesDiffer path allowed x = (allowed, x)
  fault_at_place reason.KidsDiffer path allowed x = (allowed, x)
