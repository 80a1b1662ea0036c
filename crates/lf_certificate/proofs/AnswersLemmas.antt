-- Whether a tree's answer is the first of the sets at the last depth that miss is decided.
use Rattle.std.proofs.Common.{◌≡◌, ℕ, zero, suc, true, false, List, [], ◌∷◌, length}
use Rattle.std.proofs.Common.{refl, sym, ◌∙◌, subst, arith, inl, inr}
use Rattle.std.specs.Prelude.{◌⊎◌, Option, None, Some}
use Rattle.std.proofs.lemmas.Option.{none-some}
use Rattle.std.proofs.lemmas.Bool.{both_ways, false_from_ne_true}
use Rattle.lf_list.proofs.Laws.{Decided, decide_both, decide_is}
use Rattle.lf_faults.specs.declared.fault.Parts.{Parts}
use Rattle.lf_faults.specs.declared.spec.Bounds.{Bounds}
use Rattle.lf_faults.specs.Faults.{set_is_before}
use Rattle.lf_faults.proofs.Laws.{allowed_or_not}
use Rattle.lf_sim.specs.Runs.{World}
use Rattle.lf_outcome.specs.declared.formula.Formula.{Formula}
use Rattle.lf_outcome.specs.Truth.{reaches}
use Rattle.lf_tree.specs.declared.tree.Tree.{Tree}
use Rattle.lf_tree.specs.declared.tree.Node.{out-Node}
use Rattle.lf_certificate.specs.Places.{Place, kid_at, place_from, root_of}
use Rattle.lf_certificate.specs.Accepted.{IsAllowedAnswer, IsFirstIn, MissesIn, last_depth}
use Rattle.lf_certificate.proofs.PlacesLemmas.{from-kid}
use Rattle.lf_certificate.proofs.AllowedLemmas.{some-one, edges_of, through}
use Rattle.lf_certificate.proofs.FirstsLemmas.{kid_few}
use Rattle.lf_certificate.proofs.ReasonLemmas.{first_below, lists_or_not}

-- Of the places that stand so far beneath a place, the one property holds of some, or the other of each
module _ (P Q : Place → Type 0) (d : (p : Place) → P p ⊎ Q p) where
  pub record SomeBeneath (n : ℕ) (p : Place) : Type 0 where
    pub path : List ℕ
    pub place : Place
    pub far : length path ≡ n
    pub leads : place_from p path ≡ Some place
    pub holds : P place

  abbrev pub EachBeneath : ℕ → Place → Type 0
  EachBeneath n p = (path : List ℕ) (q : Place) → length path ≡ n → place_from p path ≡ Some q → Q q

  abbrev pub SomeKid : ℕ → Place → ℕ → Type 0
  SomeKid n p i = (kid : Place) × (kid_at p i ≡ Some kid) × SomeBeneath n kid

  abbrev pub EachKid : ℕ → Place → ℕ → Type 0
  EachKid n p i = (kid : Place) → kid_at p i ≡ Some kid → EachBeneath n kid

  no_step : (i : ℕ) (path : List ℕ) → length (i ∷ path) ≡ 0 → ⊥
  no_step i path far = omega (arith, far)

  none_far : (n : ℕ) → length {A = ℕ} [] ≡ suc n → ⊥
  none_far n far = omega (arith, far)

  less_far : (n i : ℕ) (path : List ℕ) → length (i ∷ path) ≡ suc n → length path ≡ n
  less_far n i path far = omega (arith, far)

  here_each : (p : Place) → Q p → EachBeneath 0 p
  here_each p here [] q far leads = subst Q (some-one p q leads) here
  here_each p here (i ∷ path) q far leads = absurd (no_step i path far)

  all_each : (n : ℕ) (p : Place) → ((i : ℕ) → EachKid n p i) → EachBeneath (suc n) p
  all_each n p all [] q far leads = absurd (none_far n far)
  all_each n p all (i ∷ path) q far leads =
      let t = through p i path q leads in
      all i t.kid t.is path q (less_far n i path far) t.leads

  by_kid : (n : ℕ) → ((p : Place) → SomeBeneath n p ⊎ EachBeneath n p) → (p : Place) (i : ℕ) (o : Option Place) → kid_at p i ≡ o
      → SomeKid n p i ⊎ EachKid n p i
  by_kid n ih p i None is = inr (λ kid there. absurd (none-some kid (sym is ∙ there)))
  by_kid n ih p i (Some kid) is = elim (ih kid) [
    | inl found ↦ inl (kid, is, found)
    | inr each ↦ inr (λ other there. subst (EachBeneath n) (some-one kid other (sym is ∙ there)) each)
  ]

  by_kids : (n : ℕ) → ((p : Place) → SomeBeneath n p ⊎ EachBeneath n p) → (p : Place) → SomeBeneath (suc n) p ⊎ EachBeneath (suc n) p
  by_kids n ih p = elim (first_below (SomeKid n p) (EachKid n p) (λ i. by_kid n ih p i (kid_at p i) refl) (length (edges_of (out-Node p.node)))) [
    | inl found ↦
        let kid = found.here.0 in
        let some = found.here.2 in
        inl (record {
          path = found.at ∷ some.path;
          place = some.place;
          far = omega (arith, some.far);
          leads = from-kid p kid found.at some.path found.here.1 ∙ some.leads;
          holds = some.holds;
        })
    | inr all ↦ inr (all_each n p (λ i kid is. all i (kid_few p kid i is) kid is))
  ]

  pub some_or_each : (n : ℕ) (p : Place) → SomeBeneath n p ⊎ EachBeneath n p
  some_or_each zero p = elim (d p) [
    | inl here ↦ inl (record { path = []; place = p; far = refl; leads = refl; holds = here })
    | inr here ↦ inr (here_each p here)
  ]
  some_or_each (suc n) p = by_kids n (some_or_each n) p

module _ {State Note Fact : Type 0} (w : World State Note Fact) (b : Bounds) (formula : Formula Fact) where
  pub allowed_answer_or_not : (answer : Option (List Parts)) → Decided (IsAllowedAnswer b answer)
  allowed_answer_or_not None = inl tt
  allowed_answer_or_not (Some answer) = allowed_or_not b answer

  module _ (tree : Tree) where
    -- a property of sets that is decided holds of some set that misses in the tree, or of none
    abbrev pub MissesWith : (List Parts → Type 0) → Place → Type 0
    MissesWith R p = (reaches w p.faults formula ≡ false) × R p.faults

    misses_or_not : (R : List Parts → Type 0) → ((faults : List Parts) → Decided (R faults))
        → ((faults : List Parts) × MissesIn w b formula tree faults × R faults)
        ⊎ ((faults : List Parts) → MissesIn w b formula tree faults → R faults → ⊥)
    misses_or_not R decided =
        elim (some_or_each (MissesWith R) (λ p. MissesWith R p → ⊥)
        (λ p. decide_both (reaches w p.faults formula ≡ false) (R p.faults) (decide_is (reaches w p.faults formula) false) (decided p.faults))
        (last_depth b tree.answer) (root_of tree)) [
          | inl found ↦ inl (
            found.place.faults,
            record {
              path = found.path;
              place = found.place;
              leads = found.leads;
              here = omega (arith, found.far);
              same = refl;
              misses = found.holds.0;
            },
            found.holds.1,
          )
          | inr none ↦ inr (λ faults m has. none m.path m.place (omega (arith, m.here)) m.leads
              (subst (λ fs. reaches w fs formula ≡ false) (sym m.same) m.misses, subst R (sym m.same) has))
        ]

    -- the answer of a tree is the first that misses in it or it isn't
    by_answer : (answer : Option (List Parts)) → Decided (IsFirstIn w b formula tree answer)
    by_answer None = elim (misses_or_not (λ faults. Unit {0}) (λ faults. inl tt)) [
      | inl found ↦ inr (λ none. none found.0 found.1)
      | inr none ↦ inl (λ faults m. none faults m tt)
    ]
    by_answer (Some answer) =
        decide_both (MissesIn w b formula tree answer)
        ((faults : List Parts) → MissesIn w b formula tree faults → set_is_before faults answer ≡ false) (is_there answer) (is_least answer)
      where
        is_there : (answer : List Parts) → Decided (MissesIn w b formula tree answer)
        is_there answer = elim (misses_or_not (λ faults. faults ≡ answer) (λ faults. lists_or_not faults answer)) [
          | inl found ↦ inl (subst (MissesIn w b formula tree) found.2 found.1)
          | inr none ↦ inr (λ m. none answer m refl)
        ]

        is_least : (answer : List Parts)
            → Decided ((faults : List Parts) → MissesIn w b formula tree faults → set_is_before faults answer ≡ false)
        is_least answer = elim (misses_or_not (λ faults. set_is_before faults answer ≡ true) (λ faults. decide_is (set_is_before faults answer) true)) [
          | inl found ↦ inr (λ least. both_ways (set_is_before found.0 answer) (least found.0 found.1) found.2)
          | inr none ↦ inl (λ faults m. false_from_ne_true (set_is_before faults answer) (none faults m))
        ]

    pub first_in_or_not : Decided (IsFirstIn w b formula tree tree.answer)
    first_in_or_not = by_answer tree.answer
