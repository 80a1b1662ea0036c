-- What a walk finds at a node, from what it finds over its kids, and over the kids, one by one.
use Rattle.std.proofs.Common.{◌≡◌, ℕ, ◌+◌, ◌-◌, ◌<◌, true, false, List, [], ◌∷◌, ◌++◌, length, take, refl, sym, ap, ◌∙◌, subst, inl, inr, arith}
use Rattle.std.proofs.lemmas.List.{append-nil, append_assoc, length-append, take_more}
use Rattle.std.proofs.lemmas.Option.{slice_get_within, get_or_from_slice_get}
use Rattle.std.proofs.Math.Seq.{take-append_seam}
use Rattle.std.specs.Prelude.{◌⊎◌, Option, None, Some, Result, Ok, Err, IfOk, slice_get}
use Rattle.std.specs.Option.{is_some, option_map, option_and_then}
use Rattle.std.proofs.lemmas.Bool.{both_ways, cases_lt}
use Rattle.lf_faults.specs.declared.fault.Parts.{Parts}
use Rattle.lf_faults.specs.declared.spec.Bounds.{Bounds}
use Rattle.lf_faults.specs.Faults.{inserted}
use Rattle.lf_sim.specs.Runs.{World}
use Rattle.lf_outcome.specs.declared.formula.Formula.{Formula}
use Rattle.lf_outcome.specs.Truth.{reaches}
use Rattle.lf_tree.specs.declared.tree.Node.{Node, out-Node}
use Rattle.lf_tree.specs.declared.tree.Node.TheVariants as kind
use Rattle.lf_tree.specs.declared.tree.Node.TheOpen.{Node-F}
use Rattle.lf_tree.specs.declared.tree.Tree.{Tree}
use Rattle.lf_certificate.specs.declared.reason.Reason.{Reason}
use Rattle.lf_certificate.specs.Places.{Place, kid_in, kid_at, root_of}
use Rattle.lf_certificate.specs.Accepted.{IsRightNode, IsRight, AreRight, MissesFrom, IsFirstIn, last_depth}
use Rattle.lf_certificate.specs.Faults.{FailsFirst, FailsFirstFrom}
use Rattle.lf_certificate.proofs.Laws as laws
use Rattle.lf_check.specs.Nodes.{place_of, IsFaultAt}
use Rattle.lf_check.specs.Walks.{Stand, Lowers, kid_of, IsWalkFrom, AreRightBefore, MissesBefore, IsWalkOver}
use Rattle.lf_check.proofs.FirstsLemmas.{none_some, lowers-none, lowers-same, lowers-both}
use Rattle.lf_check.proofs.NodeLemmas.{opened-Misses, opened-Reaches, opened-Branch}

-- a list without the last element, which it was given
popped : (xs : List ℕ) (x : ℕ) → take (length (xs ++ x ∷ []) - 1) (xs ++ x ∷ []) ≡ xs
popped xs x =
    let long : length (xs ++ x ∷ []) - 1 ≡ length xs = omega (arith, length-append xs (x ∷ [])) in
    ap (λ n. take n (xs ++ x ∷ [])) long ∙ take-append_seam xs (x ∷ [])

take_one : (edges : List Parts) (i : ℕ) (edge : Parts) → slice_get edges i ≡ Some edge → take (i + 1) edges ≡ take i edges ++ edge ∷ []
take_one edges i edge at =
    take_more edges i edge (slice_get_within edges i edge at)
    ∙ ap (λ e. take i edges ++ e ∷ []) (get_or_from_slice_get edges i edge edge at)

module _ {State Note Fact : Type 0} (w : World State Note Fact) (b : Bounds) (formula : Formula Fact) (last depth : ℕ) (p : Place) where
  opened_right : (y : Node-F Node) → out-Node p.node ≡ y → IsRight w b formula last depth p → IsRightNode w b formula last depth p.faults p.excluded y
  opened_right y opened h = subst (IsRightNode w b formula last depth p.faults p.excluded) opened h

  -- what is wrong with the node itself comes first
  fails-here : (old new : Stand) (why : Reason) → new.path ≡ old.path → FailsFirst w b formula last depth p why
      → IsWalkFrom w b formula last depth p old new (Some why)
  fails-here old new why path h = ([], laws.fails_here w b formula last depth p why h, path ∙ sym (append-nil old.path))

  -- the same of what was found
  pub stops-here : (old new : Stand) (found : Option Reason) → is_some found ≡ true → new.path ≡ old.path → IsFaultAt w b formula last depth p found
      → IsWalkFrom w b formula last depth p old new found
  stops-here old new None some path h = let never : ⊥ = cc in absurd never
  stops-here old new (Some why) some path h = fails-here old new why path h

  -- a leaf that is right, and misses: its set has been met
  pub passes-Misses : (old new : Stand) → p.node ≡ kind.Misses → IsRight w b formula last depth p → new.excluded ≡ old.excluded
      → new.path ≡ old.path → Lowers (λ s. p.faults ≡ s) old.first new.first → IsWalkFrom w b formula last depth p old new None
  passes-Misses old new is h excluded path lowers =
      let opened = opened-Misses p.node is in
      let leaf = opened_right Node-F.Misses opened h in
      let M = MissesFrom w formula last depth p in (
        laws.wholly_right w b formula last depth p h (λ i kid k. absurd (laws.misses_no_kid p kid i opened k)),
        record {
          excluded = excluded;
          path = path;
          first = lowers-same (λ s. p.faults ≡ s) M old.first new.first
              (λ s e. subst M e (laws.misses_here w b formula last depth p leaf.here leaf.truth))
              (λ s m. elim (laws.cases_misses w b formula last depth p s m) [
                | inl here ↦ here.1
                | inr beneath ↦ absurd (laws.misses_no_kid p beneath.1 beneath.0 opened beneath.2)
              ]) lowers;
        },
      )

  -- and one that reaches: there is nothing to be met
  pub passes-Reaches : (old new : Stand) → p.node ≡ kind.Reaches → IsRight w b formula last depth p → new.excluded ≡ old.excluded
      → new.path ≡ old.path → new.first ≡ old.first → IsWalkFrom w b formula last depth p old new None
  passes-Reaches old new is h excluded path first =
      let opened = opened-Reaches p.node is in
      let leaf = opened_right Node-F.Reaches opened h in
      let M = MissesFrom w formula last depth p in (
        laws.wholly_right w b formula last depth p h (λ i kid k. absurd (laws.reaches_no_kid p kid i opened k)),
        record {
          excluded = excluded;
          path = path;
          first = subst (Lowers M old.first) (sym first) (lowers-none M old.first
              (λ s m. elim (laws.cases_misses w b formula last depth p s m) [
                | inl here ↦ both_ways (reaches w s formula) here.2 (subst (λ x. reaches w x formula ≡ true) here.1 leaf.truth)
                | inr beneath ↦ laws.reaches_no_kid p beneath.1 beneath.0 opened beneath.2
              ]));
        },
      )

  -- a branch that is right itself is as its kids are
  module _ (reach : List ℕ) (edges : List Parts) (kids : List Node) (is : p.node ≡ kind.Branch reach edges kids)
      (h : IsRight w b formula last depth p) where
    abbrev kid : ℕ → Option Place
    kid = kid_of edges kids p.faults p.excluded

    opened : out-Node p.node ≡ Node-F.Branch reach edges kids
    opened = opened-Branch p.node reach edges kids is

    same_kid : (i : ℕ) → kid_at p i ≡ kid i
    same_kid i = ap (λ y. kid_in y p.faults p.excluded i) opened

    missing : (s : List Parts) → MissesBefore w formula last depth kid (length edges) s → MissesFrom w formula last depth p s
    missing s m = laws.misses_beneath w b formula last depth p m.1 m.0 s (same_kid m.0 ∙ m.3) m.4

    missed : (s : List Parts) → MissesFrom w formula last depth p s → MissesBefore w formula last depth kid (length edges) s
    missed s m = elim (laws.cases_misses w b formula last depth p s m) [
      | inl here ↦
          let above : depth < last = (opened_right (Node-F.Branch reach edges kids) opened h).above in
          let at : depth ≡ last = here.0 in
          let never : ⊥ = omega arith in
          absurd never
      | inr t ↦ (t.0, t.1, laws.kid_within p t.1 reach edges kids t.0 opened t.2, sym (same_kid t.0) ∙ t.2, t.3)
    ]

    goes : (old new : Stand) (found : Option Reason) → IsWalkOver w b formula last depth kid (length edges) old new found
        → IsWalkFrom w b formula last depth p old new found
    goes old new None over = (
      laws.wholly_right w b formula last depth p h
          (λ i one k. over.0 i one (laws.kid_within p one reach edges kids i opened k) (sym (same_kid i) ∙ k)),
      record {
        excluded = over.1.excluded;
        path = over.1.path;
        first = lowers-same (MissesBefore w formula last depth kid (length edges)) (MissesFrom w formula last depth p) old.first new.first
            missing missed over.1.first;
      },
    )
    goes old new (Some why) over =
        let k = over.1 in (
          over.0,
          subst (FailsFirstFrom w b formula last depth p why) (sym k.3) (laws.fails_beneath w b formula last depth p k.1 k.0 why k.2 h
              (same_kid k.0 ∙ k.4) (λ j other few there. k.5 j other few (sym (same_kid j) ∙ there)) k.6),
          over.2,
        )

    pub goes-Branch : {E : Type 0} (result : Result (Option Reason) E) (old new : Stand)
        → IfOk result (IsWalkOver w b formula last depth kid (length edges) old new) → IfOk result (IsWalkFrom w b formula last depth p old new)
    goes-Branch (Ok found) old new over = goes old new found over
    goes-Branch (Err e) old new over = tt

-- The kids, one by one: they are given by place
module _ {State Note Fact : Type 0} (w : World State Note Fact) (b : Bounds) (formula : Formula Fact) (last depth : ℕ) (kid : ℕ → Option Place) where
  -- what holds over the kids before one: where the walk over them started, and where it is
  pub record SoFar (edges : List Parts) (i : ℕ) (start here : Stand) : Type 0 where
    pub excluded : here.excluded ≡ start.excluded ++ take i edges
    pub path : here.path ≡ start.path
    pub right : AreRightBefore w b formula last depth kid i
    pub first : Lowers (MissesBefore w formula last depth kid i) start.first here.first

  pub so_far-first : (edges : List Parts) (start : Stand) → SoFar edges 0 start start
  so_far-first edges start = record {
    excluded = sym (append-nil start.excluded);
    path = refl;
    right = λ j one few. let never : ⊥ = omega arith in absurd never;
    first = lowers-none (MissesBefore w formula last depth kid 0) start.first (λ s m. let few : m.0 < 0 = m.2 in omega arith);
  }

  module _ (i : ℕ) (one : Place) (is : kid i ≡ Some one) where
    some_place : (x y : Place) → Some x ≡ Some y → x ≡ y
    some_place x y e = cc

    -- a kid before the next is before this one, or is this one
    before_or_this : (j : ℕ) → j < i + 1 → (j < i) ⊎ (j ≡ i)
    before_or_this j few = elim (cases_lt j i) [ inl less ↦ inl less | inr more ↦ inr (omega arith) ]

    right-more : AreRightBefore w b formula last depth kid i → AreRight w b formula last (depth + 1) one
        → AreRightBefore w b formula last depth kid (i + 1)
    right-more before right j other few there = elim (before_or_this j few) [
      | inl less ↦ before j other less there
      | inr same ↦ subst (AreRight w b formula last (depth + 1)) (some_place one other (sym is ∙ ap kid (sym same) ∙ there)) right
    ]

    missing-more : (s : List Parts) → MissesBefore w formula last depth kid i s ⊎ MissesFrom w formula last (depth + 1) one s
        → MissesBefore w formula last depth kid (i + 1) s
    missing-more s m = elim m [
      | inl before ↦ let few : before.0 < i = before.2 in (before.0, before.1, omega arith, before.3, before.4)
      | inr this ↦ (i, one, omega arith, is, this)
    ]

    missed-more : (s : List Parts) → MissesBefore w formula last depth kid (i + 1) s
        → MissesBefore w formula last depth kid i s ⊎ MissesFrom w formula last (depth + 1) one s
    missed-more s m = elim (before_or_this m.0 m.2) [
      | inl less ↦ inl (m.0, m.1, less, m.3, m.4)
      | inr same ↦ inr (subst (λ x. MissesFrom w formula last (depth + 1) x s) (some_place m.1 one (sym m.3 ∙ ap kid same ∙ is)) m.4)
    ]

    -- one kid more, wholly right: its place is put on the path and taken off it, and its edge is then excluded
    pub so_far-more : (edges : List Parts) (edge : Parts) (start here pushed met next : Stand) → slice_get edges i ≡ Some edge
        → SoFar edges i start here → pushed.excluded ≡ here.excluded → pushed.path ≡ here.path ++ i ∷ [] → pushed.first ≡ here.first
        → (found : Option Reason) → is_some found ≡ false → IsWalkFrom w b formula last (depth + 1) one pushed met found
        → next.excluded ≡ met.excluded ++ edge ∷ [] → next.path ≡ take (length met.path - 1) met.path → next.first ≡ met.first
        → SoFar edges (i + 1) start next
    so_far-more edges edge start here pushed met next at so same put put_first (Some why) none walked excluded path first =
        let never : ⊥ = cc in absurd never
    so_far-more edges edge start here pushed met next at so same put put_first None none walked excluded path first =
        let P = MissesBefore w formula last depth kid i in
        let Q = MissesFrom w formula last (depth + 1) one in
        let passes = walked.1 in
        record {
          excluded = excluded ∙ ap (λ xs. xs ++ edge ∷ []) (passes.excluded ∙ same ∙ so.excluded)
              ∙ append_assoc start.excluded (take i edges) (edge ∷ []) ∙ ap (λ xs. start.excluded ++ xs) (sym (take_one edges i edge at));
          path = path ∙ ap (λ xs. take (length xs - 1) xs) (passes.path ∙ put) ∙ popped here.path i ∙ so.path;
          right = right-more so.right walked.0;
          first = subst (Lowers (MissesBefore w formula last depth kid (i + 1)) start.first) (sym first)
              (lowers-same (λ s. P s ⊎ Q s) (MissesBefore w formula last depth kid (i + 1)) start.first met.first missing-more missed-more
              (lowers-both P Q start.first here.first met.first so.first (subst (λ o. Lowers Q o met.first) put_first passes.first)));
        }

    -- something wrong in it
    pub stops-kid : (edges : List Parts) (count : ℕ) (start here pushed new : Stand) (found : Option Reason) → is_some found ≡ true
        → SoFar edges i start here → pushed.path ≡ here.path ++ i ∷ [] → IsWalkFrom w b formula last (depth + 1) one pushed new found
        → IsWalkOver w b formula last depth kid count start new found
    stops-kid edges count start here pushed new None some so put stops = let never : ⊥ = cc in absurd never
    stops-kid edges count start here pushed new (Some why) some so put stops = (
      i ∷ stops.0,
      (i, one, stops.0, refl, is, so.right, stops.1),
      stops.2 ∙ ap (λ xs. xs ++ stops.0) (put ∙ ap (λ xs. xs ++ i ∷ []) so.path) ∙ append_assoc start.path (i ∷ []) stops.0,
    )

  -- nothing wrong in any
  pub passes-kids : (edges : List Parts) (i count n : ℕ) (start here next : Stand) → SoFar edges i start here → i ≡ count
      → n ≡ length start.excluded → next.excluded ≡ take n here.excluded → next.path ≡ here.path → next.first ≡ here.first
      → IsWalkOver w b formula last depth kid count start next None
  passes-kids edges i count n start here next so all long excluded path first = (
    subst (AreRightBefore w b formula last depth kid) all so.right,
    record {
      excluded = excluded ∙ ap (take n) so.excluded ∙ ap (λ m. take m (start.excluded ++ take i edges)) long
          ∙ take-append_seam start.excluded (take i edges);
      path = path ∙ so.path;
      first = subst (λ k. Lowers (MissesBefore w formula last depth kid k) start.first next.first) all
          (subst (Lowers (MissesBefore w formula last depth kid i) start.first) (sym first) so.first);
    },
  )

-- the kid at a place of a branch
pub kid_of-some : (edges : List Parts) (kids : List Node) (faults excluded : List Parts) (i : ℕ) (edge : Parts) (node : Node)
    → slice_get edges i ≡ Some edge → slice_get kids i ≡ Some node
    → kid_of edges kids faults excluded i ≡ Some (place_of node (inserted edge faults) (excluded ++ take i edges))
kid_of-some edges kids faults excluded i edge node edge_is node_is =
    ap (option_and_then (λ (e : Parts). option_map (λ (n : Node). place_of n (inserted e faults) (excluded ++ take i edges)) (slice_get kids i))) edge_is
    ∙ ap (option_map (λ (n : Node). place_of n (inserted edge faults) (excluded ++ take i edges))) node_is

-- what a walk finds from a place, of a set and a list that are its own
pub walk-at : {State Note Fact : Type 0} (w : World State Note Fact) (b : Bounds) (formula : Formula Fact) (last depth : ℕ) (node : Node)
    (faults set given excluded : List Parts) (old new : Stand) (found : Option Reason) → faults ≡ set → given ≡ excluded
    → IsWalkFrom w b formula last depth (place_of node faults given) old new found
    → IsWalkFrom w b formula last depth (place_of node set excluded) old new found
walk-at w b formula last depth node faults set given excluded old new found same_set same_list h =
    subst (λ x. IsWalkFrom w b formula last depth (place_of node set x) old new found) same_list
    (subst (λ s. IsWalkFrom w b formula last depth (place_of node s given) old new found) same_set h)

-- From the root: the first of the sets that miss is the first in the tree
module _ {State Note Fact : Type 0} (w : World State Note Fact) (b : Bounds) (formula : Formula Fact) (tree : Tree) where
  pub first_in : (found : Option (List Parts)) → Lowers (MissesFrom w formula (last_depth b tree.answer) 0 (root_of tree)) None found
      → IsFirstIn w b formula tree found
  first_in None l = λ s m. l s (inr m)
  first_in (Some x) l = (
    elim l.0 [
      | inl e ↦ let never : ⊥ = none_some x e in absurd never
      | inr m ↦ m
    ],
    λ s m. l.1 s (inr m),
  )
