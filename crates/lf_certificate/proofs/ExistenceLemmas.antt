-- A search has an answer, and a tree.
use Rattle.std.proofs.Common.{◌≡◌, ℕ, zero, suc, ◌+◌, ◌<◌, ◌≤◌, Bool, true, false, not, List, [], ◌∷◌, ◌++◌, length, take}
use Rattle.std.proofs.Common.{refl, sym, ap, ◌∙◌, subst, arith, inl, inr}
use Rattle.std.specs.Prelude.{◌⊎◌, slice_get, Option, None, Some}
use Rattle.std.specs.Option.{is_some}
use Rattle.std.proofs.lemmas.Bool.{cases_Bool, false≢true}
use Rattle.std.proofs.lemmas.List.{length-append}
use Rattle.std.proofs.lemmas.Option.{slice_get_within}
use Rattle.lf_faults.specs.declared.fault.Parts.{Parts}
use Rattle.lf_faults.specs.declared.spec.Bounds.{Bounds}
use Rattle.lf_faults.specs.Faults.{inserted, set_is_before}
use Rattle.lf_faults.specs.Allowed.{IsInLimits, IsAllowed, IsNext, IsLast, IsWalkFrom, IsFirst}
use Rattle.lf_faults.proofs.Laws.{cases_sets, before-fewer, fewer-before, set_not_itself, empty_allowed, walk, length-inserted}
use Rattle.lf_sim.specs.Runs.{World}
use Rattle.lf_outcome.specs.declared.formula.Formula.{Formula}
use Rattle.lf_outcome.specs.Evidence.{evidence_of}
use Rattle.lf_outcome.specs.Truth.{reaches}
use Rattle.lf_outcome.proofs.Laws.{evidence-truth, evidence-points}
use Rattle.lf_cone.specs.Cones.{AreRequired}
use Rattle.lf_cone.proofs.Laws.{sharp_exists, required_exist}
use Rattle.lf_tree.specs.declared.tree.Tree.{Tree}
use Rattle.lf_tree.specs.declared.tree.Node.{Node, out-Node, roll-Node, out-roll-Node}
use Rattle.lf_tree.specs.declared.tree.Node.TheOpen.{Node-F}
use Rattle.lf_certificate.specs.Places.{Place, place_from}
use Rattle.lf_certificate.specs.Accepted.{IsAnswer, last_depth}
use Rattle.lf_certificate.specs.Grown.{IsGrownNode, IsGrown, IsTreeOf}
use Rattle.lf_certificate.proofs.AllowedLemmas.{some-one, kid_there, through, edges_of}
use Rattle.lf_certificate.proofs.AnswerLemmas.{reaches_or}
use Rattle.lf_certificate.proofs.Covering.{item, item-in}
use Rattle.lf_certificate.proofs.GrownLemmas.{AreGrown}

-- ---- the answer

module _ (b : Bounds) (misses : List Parts → Bool) where
  -- no allowed set before this one misses
  abbrev NoneBefore : List Parts → Type 0
  NoneBefore here = (other : List Parts) → IsAllowed b other → set_is_before other here ≡ true → misses other ≡ false

  abbrev Found : Type 0
  Found = (answer : Option (List Parts)) × IsFirst b misses answer

  both_truths : (r : Bool) → r ≡ true → r ≡ false → ⊥
  both_truths r t f = false≢true (sym f ∙ t)

  found_here : (here : List Parts) → IsAllowed b here → NoneBefore here → misses here ≡ true → Found
  found_here here allowed none is = (
    Some here,
    (
      allowed,
      is,
      λ other other_allowed missing. elim (cases_Bool (set_is_before other here)) [
        | inl before ↦ absurd (both_truths (misses other) missing (none other other_allowed before))
        | inr after ↦ after
      ],
    ),
  )

  not_here : (here other : List Parts) → here ≡ other → misses here ≡ false → misses other ≡ false
  not_here here other same isnt = ap misses (sym same) ∙ isnt

  at_last : (here : List Parts) → IsLast b here → NoneBefore here → misses here ≡ false → Found
  at_last here last none isnt = (
    None,
    λ other allowed. elim (cases_sets here other) [
      | inl after ↦ absurd (both_truths (set_is_before here other) after (last other allowed))
      | inr rest ↦ elim rest [ inl same ↦ not_here here other same isnt | inr before ↦ none other allowed before ]
    ],
  )

  none_before_next : (here next : List Parts) → IsNext b here next → NoneBefore here → misses here ≡ false → NoneBefore next
  none_before_next here next is none isnt other allowed before = elim (cases_sets here other) [
    | inl after ↦ absurd (both_truths (set_is_before other next) before (is.least other allowed after))
    | inr rest ↦ elim rest [ inl same ↦ not_here here other same isnt | inr earlier ↦ none other allowed earlier ]
  ]

  from_walk : (sets : List (List Parts)) (here : List Parts) → IsWalkFrom b here sets → IsAllowed b here → NoneBefore here → Found
  from_walk [] here walk allowed none = elim (cases_Bool (misses here)) [
    | inl is ↦ found_here here allowed none is
    | inr isnt ↦ at_last here walk none isnt
  ]
  from_walk (next ∷ sets) here walk allowed none = elim (cases_Bool (misses here)) [
    | inl is ↦ found_here here allowed none is
    | inr isnt ↦ from_walk sets next walk.1 walk.0.allowed (none_before_next here next walk.0 none isnt)
  ]

  none_before_empty : NoneBefore []
  none_before_empty [] allowed before = absurd (set_not_itself [] before)
  none_before_empty (f ∷ fs) allowed before =
      let few : length (f ∷ fs) ≤ 0 = before-fewer (f ∷ fs) [] before in
      let never : ⊥ = omega (arith, few) in
      absurd never

  pub first_exists : IsInLimits b → Found
  first_exists limits =
      let found = walk b [] limits (empty_allowed b) in
      from_walk found.0 [] found.1 (empty_allowed b) none_before_empty

-- ---- the tree

none_below : (i : ℕ) → i < 0 → ⊥
none_below i below = omega (arith, below)

some_of : {X : Type 0} (o : Option X) → is_some o ≡ true → (x : X) × (o ≡ Some x)
some_of None is = absurd (false≢true is)
some_of (Some x) is = (x, refl)

abbrev kids_of : Node-F Node → List Node
kids_of Node-F.Misses = []
kids_of Node-F.Reaches = []
kids_of (Node-F.Branch reach edges kids) = kids

-- an item of a list with one more at its end
get-push : {X : Type 0} (xs : List X) (x y : X) (i : ℕ) → slice_get (xs ++ x ∷ []) i ≡ Some y → (slice_get xs i ≡ Some y) ⊎ ((i ≡ length xs) × (x ≡ y))
get-push [] x y zero is = inr (refl, some-one x y is)
get-push [] x y (suc i) is = absurd (false≢true (ap is_some is))
get-push (z ∷ zs) x y zero is = inl is
get-push (z ∷ zs) x y (suc i) is = elim (get-push zs x y i is) [
  | inl here ↦ inl here
  | inr last ↦ inr (omega (arith, last.0), last.1)
]

module _ {State Note Fact : Type 0} (w : World State Note Fact) (b : Bounds) (formula : Formula Fact) (last : ℕ)
    (reaching : (faults : List Parts) → IsAllowed b faults → length faults < last → reaches w faults formula ≡ true) where
  abbrev Grows : ℕ → Type 0
  Grows n =
      (d : ℕ) (faults excluded : List Parts) → d + n ≡ last → length faults ≡ d → IsAllowed b faults
      → (x : Node) × AreGrown w b formula last d faults excluded x

  abbrev placed : List Parts → List Parts → Node → Place
  placed faults excluded x = record { node = x; faults = faults; excluded = excluded }

  -- at the place of a node itself
  here_grown : (d at : ℕ) (faults excluded : List Parts) (u : Node-F Node) (q : Place) → IsGrownNode w b formula last d faults excluded u
      → at ≡ d + 0 → place_from (placed faults excluded (roll-Node u)) [] ≡ Some q → IsGrown w b formula last at q
  here_grown d at faults excluded u q has far leads =
      let here : d ≡ at = omega (arith, far) in
      subst (λ r. IsGrown w b formula last at r) (some-one (placed faults excluded (roll-Node u)) q leads)
      (subst (λ k. IsGrownNode w b formula last k faults excluded (out-Node (roll-Node u))) here
      (subst (IsGrownNode w b formula last d faults excluded) (sym (out-roll-Node u)) has))

  -- beneath a leaf there is nothing
  leaf_grown : (d : ℕ) (faults excluded : List Parts) (u : Node-F Node) → edges_of u ≡ [] → IsGrownNode w b formula last d faults excluded u
      → AreGrown w b formula last d faults excluded (roll-Node u)
  leaf_grown d faults excluded u none has [] q at far leads = here_grown d at faults excluded u q has far leads
  leaf_grown d faults excluded u none has (i ∷ rest) q at far leads =
      let t = through (placed faults excluded (roll-Node u)) i rest q leads in
      let k = kid_there (placed faults excluded (roll-Node u)) t.kid i t.is in
      let empty : k.edges ≡ [] = sym (ap edges_of (sym (out-roll-Node u) ∙ k.opened)) ∙ none in
      let few : i < length k.edges = slice_get_within k.edges i k.edge k.edge_is in
      let never : ⊥ = omega (arith, few, ap length empty) in
      absurd never

  -- the kids of the first edges
  record KidsTo (d : ℕ) (faults excluded edges : List Parts) (m : ℕ) : Type 0 where
    kids : List Node
    count : length kids ≡ m
    grown : (i : ℕ) (edge : Parts) (kid : Node) → slice_get edges i ≡ Some edge → slice_get kids i ≡ Some kid
        → AreGrown w b formula last (d + 1) (inserted edge faults) (excluded ++ take i edges) kid

  -- beneath a branch there are its kids
  branch_grown : (d : ℕ) (faults excluded : List Parts) (reach : List ℕ) (edges : List Parts) (kids : List Node)
      → IsGrownNode w b formula last d faults excluded (Node-F.Branch reach edges kids)
      → ((i : ℕ) (edge : Parts) (kid : Node) → slice_get edges i ≡ Some edge → slice_get kids i ≡ Some kid
      → AreGrown w b formula last (d + 1) (inserted edge faults) (excluded ++ take i edges) kid)
      → AreGrown w b formula last d faults excluded (roll-Node (Node-F.Branch reach edges kids))
  branch_grown d faults excluded reach edges kids has grown [] q at far leads =
      here_grown d at faults excluded (Node-F.Branch reach edges kids) q has far leads
  branch_grown d faults excluded reach edges kids has grown (i ∷ rest) q at far leads =
      let u : Node-F Node = Node-F.Branch reach edges kids in
      let t = through (placed faults excluded (roll-Node (Node-F.Branch reach edges kids))) i rest q leads in
      let k = kid_there (placed faults excluded (roll-Node (Node-F.Branch reach edges kids))) t.kid i t.is in
      let same : Node-F.Branch reach edges kids ≡ Node-F.Branch k.reach k.edges k.kids = sym (out-roll-Node (Node-F.Branch reach edges kids)) ∙ k.opened in
      let edges_same : edges ≡ k.edges = ap edges_of same in
      let kids_same : kids ≡ k.kids = ap kids_of same in
      let edge_is : slice_get edges i ≡ Some k.edge = ap (λ es. slice_get es i) edges_same ∙ k.edge_is in
      let node_is : slice_get kids i ≡ Some t.kid.node = ap (λ ks. slice_get ks i) kids_same ∙ k.node_is in
      let all : AreGrown w b formula last (d + 1) (inserted k.edge faults) (excluded ++ take i edges) t.kid.node =
      grown i k.edge t.kid.node edge_is node_is in
      let out : excluded ++ take i edges ≡ t.kid.excluded = ap (λ es. excluded ++ take i es) edges_same ∙ sym k.excluded_is in
      let there : AreGrown w b formula last (d + 1) t.kid.faults t.kid.excluded t.kid.node =
      subst (λ f. AreGrown w b formula last (d + 1) f t.kid.excluded t.kid.node) (sym k.faults_is)
      (subst (λ x. AreGrown w b formula last (d + 1) (inserted k.edge faults) x t.kid.node) out all) in
      there rest q at (omega (arith, far)) t.leads

  module _ (n : ℕ) (ih : Grows n) (d : ℕ) (faults excluded : List Parts) (sum : d + suc n ≡ last) (size : length faults ≡ d)
      (allowed : IsAllowed b faults) where
    kids_to : (reach : List ℕ) (edges : List Parts) → AreRequired w faults b reach excluded edges → (m : ℕ) → m ≤ length edges
        → KidsTo d faults excluded edges m
    kids_to reach edges required zero few = record {
      kids = [];
      count = refl;
      grown = λ i edge kid e_is k_is. absurd (none_below i (slice_get_within [] i kid k_is));
    }
    kids_to reach edges required (suc m) few =
        let before = kids_to reach edges required m (omega (arith, few)) in
        let e = item edges m (omega (arith, few)) in
        let made =
        ih (d + 1) (inserted e.0 faults) (excluded ++ take m edges) (omega (arith, sum)) (length-inserted e.0 faults ∙ ap (λ k. k + 1) size)
        ((required.each e.0).0 (item-in edges m e.0 e.1)).allowed.1 in
        record {
          kids = before.kids ++ made.0 ∷ [];
          count = length-append before.kids (made.0 ∷ []) ∙ omega (arith, before.count);
          grown = λ i edge kid e_is k_is. elim (get-push before.kids made.0 kid i k_is) [
            | inl old ↦ before.grown i edge kid e_is old
            | inr new ↦
                let at : m ≡ i = sym before.count ∙ sym new.0 in
                let edge_same : e.0 ≡ edge = some-one e.0 edge (sym e.1 ∙ ap (slice_get edges) at ∙ e_is) in
                subst (λ x. AreGrown w b formula last (d + 1) (inserted edge faults) (excluded ++ take i edges) x) new.1
                (subst (λ j. AreGrown w b formula last (d + 1) (inserted edge faults) (excluded ++ take j edges) made.0) at
                (subst (λ f. AreGrown w b formula last (d + 1) (inserted f faults) (excluded ++ take m edges) made.0) edge_same made.1))
          ];
        }

    branch_exists : (x : Node) × AreGrown w b formula last d faults excluded x
    branch_exists =
        let truth : reaches w faults formula ≡ true = reaching faults allowed (omega (arith, size, sum)) in
        let rests = some_of (evidence_of w faults formula) (evidence-truth w faults formula ∙ truth) in
        let points = evidence-points w faults formula rests.0 rests.1 in
        let sharp = sharp_exists w faults rests.0 (λ p c. ((points p c).0, (points p c).2)) in
        let required = required_exist w faults b sharp.0 excluded in
        let all = kids_to sharp.0 required.0 required.1 (length required.0) (omega arith) in (
          roll-Node (Node-F.Branch sharp.0 required.0 all.kids),
          branch_grown d faults excluded sharp.0 required.0 all.kids (record {
            above = omega (arith, sum);
            sharp = (rests.0, rests.1, sharp.1);
            required = required.1;
            each = all.count;
          }) all.grown,
        )

  pub grows : (n : ℕ) → Grows n
  grows zero d faults excluded sum size allowed = elim (reaches_or (reaches w faults formula)) [
    | inl is ↦
        (roll-Node Node-F.Reaches, leaf_grown d faults excluded Node-F.Reaches refl (record { here = omega (arith, sum); truth = is }))
    | inr isnt ↦
        (roll-Node Node-F.Misses, leaf_grown d faults excluded Node-F.Misses refl (record { here = omega (arith, sum); truth = isnt }))
  ]
  grows (suc n) d faults excluded sum size allowed = branch_exists n (grows n) d faults excluded sum size allowed

module _ {State Note Fact : Type 0} (w : World State Note Fact) (b : Bounds) (formula : Formula Fact) where
  turned : (r : Bool) → not r ≡ false → r ≡ true
  turned true e = refl
  turned false e = sym e

  -- sets of fewer faults than the last depth reach
  fewer_reach : (answer : Option (List Parts)) → IsAnswer w b formula answer → (faults : List Parts) → IsAllowed b faults
      → length faults < last_depth b answer → reaches w faults formula ≡ true
  fewer_reach None first faults allowed few = turned (reaches w faults formula) (first faults allowed)
  fewer_reach (Some answer) first faults allowed few = elim (reaches_or (reaches w faults formula)) [
    | inl is ↦ is
    | inr isnt ↦
        absurd (false≢true (sym (first.2 faults allowed (ap not isnt)) ∙ fewer-before faults answer few))
  ]

  pub tree_exists : IsInLimits b → (tree : Tree) × IsTreeOf w b formula tree
  tree_exists limits =
      let answer = first_exists b (λ faults. not (reaches w faults formula)) limits in
      let root =
      grows w b formula (last_depth b answer.0) (fewer_reach answer.0 answer.1) (last_depth b answer.0) 0 [] [] (omega arith) refl (empty_allowed b) in (
        record { answer = answer.0; root = root.0 },
        record {
          answer = answer.1;
          places = λ path p leads. root.1 path p (length path) (omega arith) leads;
        },
      )
