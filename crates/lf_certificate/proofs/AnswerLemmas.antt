-- The answer of an accepted tree.
use Rattle.std.proofs.Common.{◌≡◌, ℕ, ◌≤◌, Bool, true, false, not, List, length}
use Rattle.std.proofs.Common.{refl, sym, ap, ◌∙◌, subst, arith, inl, inr}
use Rattle.std.specs.Prelude.{◌⊎◌, Option, None, Some}
use Rattle.std.proofs.lemmas.Bool.{cases_Bool, false≢true}
use Rattle.lf_list.proofs.Laws.{none-in}
use Rattle.lf_faults.specs.declared.fault.Parts.{Parts}
use Rattle.lf_faults.specs.declared.spec.Bounds.{Bounds}
use Rattle.lf_faults.specs.Faults.{set_is_before}
use Rattle.lf_faults.specs.Allowed.{IsAllowed, IsFirst}
use Rattle.lf_faults.proofs.Laws.{empty_allowed, before-fewer}
use Rattle.lf_sim.specs.Runs.{World}
use Rattle.lf_outcome.specs.declared.formula.Formula.{Formula}
use Rattle.lf_outcome.specs.Truth.{reaches}
use Rattle.lf_tree.specs.declared.tree.Tree.{Tree}
use Rattle.lf_certificate.specs.Places.{Place, root_of, place_at}
use Rattle.lf_certificate.specs.Accepted.{AreRight, IsBounded, IsAnswer, IsAllowedAnswer, IsFirstIn, MissesIn, IsRight, last_depth}
use Rattle.lf_certificate.proofs.Covering.{claim}

-- of a truth value that isn't true
pub reaches_or : (r : Bool) → (r ≡ true) ⊎ (r ≡ false)
reaches_or r = cases_Bool r

module _ {State Note Fact : Type 0} (w : World State Note Fact) (b : Bounds) (formula : Formula Fact) (tree : Tree) (bounded : IsBounded w b)
    (places : (path : List ℕ) (p : Place) → place_at tree path ≡ Some p → IsRight w b formula (last_depth b tree.answer) (length path) p) where
  lasts : 1 ≤ w.pause_length
  lasts = omega (arith, bounded.pause_length, bounded.limits.pause_length.0)

  all_right : AreRight w b formula (last_depth b tree.answer) 0 (root_of tree)
  all_right path q at far leads =
      let same : length path ≡ at = omega (arith, far) in
      subst (λ d. IsRight w b formula (last_depth b tree.answer) d q) same (places path q leads)

  -- each allowed set of at most the last size reaches, or misses in the tree
  pub each_set : (other : List Parts) → IsAllowed b other → length other ≤ last_depth b tree.answer
      → (reaches w other formula ≡ true) ⊎ ((reaches w other formula ≡ false) × MissesIn w b formula tree other)
  each_set other allowed few = elim (reaches_or (reaches w other formula)) [
    | inl reaching ↦ inl reaching
    | inr missing ↦ elim (claim w b formula (last_depth b tree.answer) lasts (last_depth b tree.answer) 0 (root_of tree) (omega arith) refl
        (empty_allowed b) all_right other (record {
          allowed = allowed;
          holds = λ f c. absurd (none-in f c);
          avoids = λ f c there. none-in f c;
          few = few;
        })) [
          | inl reaching ↦ inl reaching
          | inr stands ↦ inr (
            missing,
            record {
              path = stands.path;
              place = stands.place;
              leads = stands.leads;
              here = stands.here;
              same = stands.same;
              misses = missing;
            },
          )
        ]
  ]

  never : (other : List Parts) → reaches w other formula ≡ true → not (reaches w other formula) ≡ true → ⊥
  never other reaching missing = false≢true (sym (ap not reaching) ∙ missing)

  turned : (other : List Parts) → reaches w other formula ≡ true → not (reaches w other formula) ≡ false
  turned other reaching = ap not reaching

  no_answer : tree.answer ≡ None → ((faults : List Parts) → MissesIn w b formula tree faults → ⊥)
      → IsFirst b (λ faults. not (reaches w faults formula)) None
  no_answer none all other allowed =
      let few : length other ≤ last_depth b tree.answer = subst (λ o. length other ≤ last_depth b o) (sym none) allowed.budget in
      elim (each_set other allowed few) [
        | inl reaching ↦ turned other reaching
        | inr missing ↦ absurd (all other missing.1)
      ]

  an_answer : (answer : List Parts) → tree.answer ≡ Some answer → IsAllowed b answer → MissesIn w b formula tree answer
      → ((faults : List Parts) → MissesIn w b formula tree faults → set_is_before faults answer ≡ false)
      → IsFirst b (λ faults. not (reaches w faults formula)) (Some answer)
  an_answer answer is allowed misses least = (
    allowed,
    ap not misses.misses,
    λ other other_allowed missing.
        elim (cases_Bool (set_is_before other answer)) [
          | inr after ↦ after
          | inl before ↦
              let few : length other ≤ last_depth b tree.answer =
              subst (λ o. length other ≤ last_depth b o) (sym is) (before-fewer other answer before) in
              elim (each_set other other_allowed few) [
                | inl reaching ↦ absurd (never other reaching missing)
                | inr there ↦ least other there.1
              ]
        ],
  )

  by_answer : (answer : Option (List Parts)) → tree.answer ≡ answer → IsAllowedAnswer b answer → IsFirstIn w b formula tree answer
      → IsAnswer w b formula answer
  by_answer None is allowed first = no_answer is first
  by_answer (Some answer) is allowed first = an_answer answer is allowed first.0 first.1

  pub answer_is : IsAllowedAnswer b tree.answer → IsFirstIn w b formula tree tree.answer → IsAnswer w b formula tree.answer
  answer_is allowed first = by_answer tree.answer refl allowed first
