-- The first failing place beneath a place, one level at a time: a place with all beneath it is right, or something fails first.
use Rattle.std.proofs.Common.{◌≡◌, ℕ, zero, suc, ◌+◌, ◌-◌, ◌<◌, true, List, [], ◌∷◌, length}
use Rattle.std.proofs.Common.{refl, sym, ap, ◌∙◌, subst, arith, inl, inr}
use Rattle.std.specs.Prelude.{◌⊎◌, Option, None, Some}
use Rattle.std.specs.declared.cmp.Ordering.{Ordering}
use Rattle.std.specs.declared.cmp.Ordering.TheVariants.{Less, Equal, Greater}
use Rattle.std.specs.Ordering.{nat_cmp, ordering_then, is_lt}
use Rattle.std.specs.Cmp.Lexicographic.{slice_cmp}
use Rattle.std.proofs.lemmas.Cmp.{ranked}
use Rattle.std.proofs.lemmas.Option.{none-some, slice_get_within}
use Rattle.std.proofs.lemmas.Bool.{cases_lt, false≢true}
use Rattle.lf_faults.specs.declared.spec.Bounds.{Bounds}
use Rattle.lf_sim.specs.Runs.{World}
use Rattle.lf_outcome.specs.declared.formula.Formula.{Formula}
use Rattle.lf_tree.specs.declared.tree.Tree.{Tree}
use Rattle.lf_tree.specs.declared.tree.Node.{Node, out-Node}
use Rattle.lf_tree.specs.declared.tree.Node.TheOpen.{Node-F}
use Rattle.lf_certificate.specs.declared.reason.Reason.{Reason}
use Rattle.lf_certificate.specs.Places.{Place, kid_at, place_from, root_of, place_at}
use Rattle.lf_certificate.specs.Accepted.{IsRight, IsRightNode, AreRight, last_depth}
use Rattle.lf_certificate.specs.Faults.{path_is_before, Fails, FailsFirst, FailsFirstFrom, NoneFails}
use Rattle.lf_certificate.proofs.PlacesLemmas.{from-kid}
use Rattle.lf_certificate.proofs.AllowedLemmas.{some-one, is_branch, edges_of, KidOf, kid_there, through}
use Rattle.lf_certificate.proofs.ReasonLemmas.{first_below, right_fails_not, right_or_fails}

-- The order of paths, one step at a time: a path that comes before one through a kid is empty, or goes through a kid
-- before it, or through the same kid and comes before it there
by_step : (o : Ordering) (i : ℕ) (path : List ℕ) (j : ℕ) (other : List ℕ) → nat_cmp j i ≡ o
    → is_lt (ordering_then o (slice_cmp nat_cmp other path)) ≡ true → (j < i) ⊎ ((j ≡ i) × (path_is_before other path ≡ true))
by_step Less i path j other is before = inl (ranked j i Less (sym is))
by_step Equal i path j other is before = inr (ranked j i Equal (sym is), before)
by_step Greater i path j other is before = absurd (false≢true before)

pub step_before : (i : ℕ) (path : List ℕ) (j : ℕ) (other : List ℕ) → path_is_before (j ∷ other) (i ∷ path) ≡ true
    → (j < i) ⊎ ((j ≡ i) × (path_is_before other path ≡ true))
step_before i path j other before = by_step (nat_cmp j i) i path j other refl before

not_before_root : (other : List ℕ) → path_is_before other [] ≡ true → ⊥
not_before_root [] before = false≢true before
not_before_root (j ∷ other) before = false≢true before

-- a kid stands behind an edge
pub kid_few : (p kid : Place) (i : ℕ) → kid_at p i ≡ Some kid → i < length (edges_of (out-Node p.node))
kid_few p kid i is =
    let k = kid_there p kid i is in
    let edges : length (edges_of (out-Node p.node)) ≡ length k.edges = ap (λ y. length (edges_of y)) k.opened in
    omega (arith, edges, slice_get_within k.edges i k.edge k.edge_is)

module _ {State Note Fact : Type 0} (w : World State Note Fact) (b : Bounds) (formula : Formula Fact) (last : ℕ) where
  -- A right place whose kids are wholly right is wholly right,
  pub wholly_right : (depth : ℕ) (p : Place) → IsRight w b formula last depth p
      → ((i : ℕ) (kid : Place) → kid_at p i ≡ Some kid → AreRight w b formula last (depth + 1) kid) → AreRight w b formula last depth p
  wholly_right depth p right kids [] q at far leads =
      let here : depth ≡ at = omega (arith, far) in
      subst (λ d. IsRight w b formula last d q) here (subst (IsRight w b formula last depth) (some-one p q leads) right)
  wholly_right depth p right kids (i ∷ path) q at far leads =
      let t = through p i path q leads in
      kids i t.kid t.is path q at (omega (arith, far)) t.leads

  -- and so are the kids of one;
  pub right_kid : (depth : ℕ) (p kid : Place) (i : ℕ) → kid_at p i ≡ Some kid → AreRight w b formula last depth p
      → AreRight w b formula last (depth + 1) kid
  right_kid depth p kid i is right path q at far leads = right (i ∷ path) q at (omega (arith, far)) (from-kid p kid i path is ∙ leads)

  -- a place that fails does so first
  pub fails_here : (depth : ℕ) (p : Place) (why : Reason) → FailsFirst w b formula last depth p why → FailsFirstFrom w b formula last depth p why []
  fails_here depth p why fails =
      let same : depth ≡ depth + length {A = ℕ} [] = omega arith in
      record {
        place = p;
        leads = refl;
        fails = subst (λ d. FailsFirst w b formula last d p why) same fails;
        before = λ other q before. absurd (not_before_root other before);
      }

  module _ (depth : ℕ) (p kid : Place) (i : ℕ) (why : Reason) (path : List ℕ) (right : IsRight w b formula last depth p)
      (is : kid_at p i ≡ Some kid) (early : (j : ℕ) (other : Place) → j < i → kid_at p j ≡ Some other → AreRight w b formula last (depth + 1) other)
      (found : FailsFirstFrom w b formula last (depth + 1) kid why path) where
    -- what comes before doesn't fail
    none_before : (other : List ℕ) (q : Place) → path_is_before other (i ∷ path) ≡ true → place_from p other ≡ Some q
        → (reason : Reason) → Fails w b formula last (depth + length other) q reason → ⊥
    none_before [] q before leads reason fails =
        let same : depth + length {A = ℕ} [] ≡ depth = omega arith in
        right_fails_not w b formula last depth p right reason
        (subst (λ r. Fails w b formula last depth r reason) (sym (some-one p q leads)) (subst (λ d. Fails w b formula last d q reason) same fails))
    none_before (j ∷ other) q before leads reason fails =
        let t = through p j other q leads in
        let same : depth + length (j ∷ other) ≡ (depth + 1) + length other = omega arith in
        elim (step_before i path j other before) [
          | inl below ↦ right_fails_not w b formula last (depth + length (j ∷ other)) q
              (early j t.kid below t.is other q (depth + length (j ∷ other)) same t.leads) reason fails
          | inr here ↦
              let kids : t.kid ≡ kid = some-one t.kid kid (sym t.is ∙ ap (λ k. kid_at p k) here.0 ∙ is) in
              found.before other q here.1 (subst (λ k. place_from k other ≡ Some q) kids t.leads) reason
              (subst (λ d. Fails w b formula last d q reason) same fails)
        ]

    -- a right place whose kids before one are wholly right fails first where that kid does
    pub fails_beneath : FailsFirstFrom w b formula last depth p why (i ∷ path)
    fails_beneath =
        let same : (depth + 1) + length path ≡ depth + length (i ∷ path) = omega arith in
        record {
          place = found.place;
          leads = from-kid p kid i path is ∙ found.leads;
          fails = subst (λ d. FailsFirst w b formula last d found.place why) same found.fails;
          before = none_before;
        }

  -- what fails first isn't wholly right
  pub fails_not_right : (depth : ℕ) (p : Place) (why : Reason) (path : List ℕ) → FailsFirstFrom w b formula last depth p why path
      → AreRight w b formula last depth p → ⊥
  fails_not_right depth p why path found right =
      right_fails_not w b formula last (depth + length path) found.place (right path found.place (depth + length path) refl found.leads) why
      found.fails.fails

  -- So a place is wholly right, or something fails first
  abbrev pub FailsFrom : ℕ → Place → Type 0
  FailsFrom depth p = (why : Reason) × (path : List ℕ) × FailsFirstFrom w b formula last depth p why path

  abbrev pub RightOrNot : ℕ → Type 0
  RightOrNot n = (depth : ℕ) (p : Place) → depth + n ≡ last → AreRight w b formula last depth p ⊎ FailsFrom depth p

  -- a kid that fails, or no kid
  abbrev pub FailingKid : ℕ → Place → ℕ → Type 0
  FailingKid depth p i = (kid : Place) × (kid_at p i ≡ Some kid) × FailsFrom (depth + 1) kid

  abbrev pub RightKid : ℕ → Place → ℕ → Type 0
  RightKid depth p i = (kid : Place) → kid_at p i ≡ Some kid → AreRight w b formula last (depth + 1) kid

  by_kid : (n : ℕ) → RightOrNot n → (depth : ℕ) → depth + suc n ≡ last → (p : Place) (i : ℕ) (o : Option Place) → kid_at p i ≡ o
      → FailingKid depth p i ⊎ RightKid depth p i
  by_kid n ih depth sum p i None is = inr (λ kid there. absurd (none-some kid (sym is ∙ there)))
  by_kid n ih depth sum p i (Some kid) is = elim (ih (depth + 1) kid (omega (arith, sum))) [
    | inl right ↦ inr (λ other there. subst (AreRight w b formula last (depth + 1)) (some-one kid other (sym is ∙ there)) right)
    | inr fails ↦ inl (kid, is, fails)
  ]

  kids_right : (n : ℕ) → RightOrNot n → (depth : ℕ) → depth + suc n ≡ last → (p : Place) → IsRight w b formula last depth p
      → AreRight w b formula last depth p ⊎ FailsFrom depth p
  kids_right n ih depth sum p right =
      elim (first_below (FailingKid depth p) (RightKid depth p) (λ i. by_kid n ih depth sum p i (kid_at p i) refl)
      (length (edges_of (out-Node p.node)))) [
        | inl found ↦
            let kid = found.here.0 in
            let fails = found.here.2 in
            inr (
              fails.0,
              found.at ∷ fails.1,
              fails_beneath depth p kid found.at fails.0 fails.1 right found.here.1 (λ j other below there. found.before j below other there) fails.2,
            )
        | inr all ↦ inl (wholly_right depth p right (λ i kid is. all i (kid_few p kid i is) kid is))
      ]

  no_kid : (depth : ℕ) (p : Place) → depth + 0 ≡ last → (y : Node-F Node) → IsRightNode w b formula last depth p.faults p.excluded y
      → (i : ℕ) (kid : Place) → KidOf y p.faults p.excluded i kid → ⊥
  no_kid depth p sum Node-F.Misses right i kid k = false≢true (ap is_branch k.opened)
  no_kid depth p sum Node-F.Reaches right i kid k = false≢true (ap is_branch k.opened)
  no_kid depth p sum (Node-F.Branch reach edges kids) right i kid k = omega (arith, sum, right.above)

  right_or_not : (n : ℕ) → RightOrNot n
  right_or_not zero depth p sum = elim (right_or_fails w b formula last depth p) [
    | inr fails ↦ inr (fails.0, [], fails_here depth p fails.0 fails.1)
    | inl right ↦ inl (wholly_right depth p right (λ i kid is. absurd (no_kid depth p sum (out-Node p.node) right i kid (kid_there p kid i is))))
  ]
  right_or_not (suc n) depth p sum = elim (right_or_fails w b formula last depth p) [
    | inr fails ↦ inr (fails.0, [], fails_here depth p fails.0 fails.1)
    | inl right ↦ kids_right n (right_or_not n) depth sum p right
  ]

  not_past : (depth : ℕ) (p : Place) (y : Node-F Node) → IsRightNode w b formula last depth p.faults p.excluded y → last < depth → ⊥
  not_past depth p Node-F.Misses right past = omega (arith, right.here, past)
  not_past depth p Node-F.Reaches right past = omega (arith, right.here, past)
  not_past depth p (Node-F.Branch reach edges kids) right past = omega (arith, right.above, past)

  pub right_or_fails_from : (depth : ℕ) (p : Place) → AreRight w b formula last depth p ⊎ FailsFrom depth p
  right_or_fails_from depth p = elim (cases_lt last depth) [
    | inr above ↦ right_or_not (last - depth) depth p (omega (arith, above))
    | inl past ↦ elim (right_or_fails w b formula last depth p) [
      | inr fails ↦ inr (fails.0, [], fails_here depth p fails.0 fails.1)
      | inl right ↦ absurd (not_past depth p (out-Node p.node) right past)
    ]
  ]

module _ {State Note Fact : Type 0} (w : World State Note Fact) (b : Bounds) (formula : Formula Fact) (tree : Tree) where
  -- Where the root is wholly right, each place is, and none fails
  pub places_right : AreRight w b formula (last_depth b tree.answer) 0 (root_of tree) → (path : List ℕ) (p : Place)
      → place_at tree path ≡ Some p → IsRight w b formula (last_depth b tree.answer) (length path) p
  places_right right path p leads = right path p (length path) (omega arith) leads

  pub none_fails : AreRight w b formula (last_depth b tree.answer) 0 (root_of tree) → NoneFails w b formula tree
  none_fails right path p leads =
      right_fails_not w b formula (last_depth b tree.answer) (length path) p (places_right right path p leads)
