-- The tree of nodes that an ended search becomes is the tree of the search.
use Rattle.std.proofs.Common.{◌≡◌, ℕ, ◌+◌, ◌<◌, Bool, true, false, List, [], ◌∷◌, ◌++◌, length, take}
use Rattle.std.proofs.Common.{refl, sym, ap, ◌∙◌, subst, arith, inl, inr}
use Rattle.std.specs.Prelude.{◌⊎◌, slice_get, nat_lt, Option, None, Some, IsSome}
use Rattle.std.specs.Option.{is_some, option_map, option_and_then}
use Rattle.std.proofs.lemmas.Bool.{cases_lt, ltb-true}
use Rattle.std.proofs.lemmas.List.{length-append}
use Rattle.std.proofs.lemmas.Option.{none-some, same_Some, slice_get_within}
use Rattle.lf_faults.specs.declared.fault.Parts.{Parts}
use Rattle.lf_faults.specs.declared.spec.Bounds.{Bounds}
use Rattle.lf_faults.specs.Faults.{inserted}
use Rattle.lf_sim.specs.Runs.{World}
use Rattle.lf_outcome.specs.declared.formula.Formula.{Formula}
use Rattle.lf_tree.specs.declared.tree.Node.{Node, out-Node}
use Rattle.lf_tree.specs.declared.tree.Node.TheOpen.{Node-F}
use Rattle.lf_certificate.specs.Accepted.{IsBounded}
use Rattle.lf_certificate.specs.Grown.{IsTreeOf, IsGrown, IsGrownNode}
use Rattle.lf_certificate.specs.Places.{Place, kid_at, place_from, place_at}
use Rattle.lf_certificate.specs.Places as places
use Rattle.lf_marks.specs.Nodes.{kid_in, node_along, said_in, said, shown}
use Rattle.lf_marks.specs.Nodes as nodes
use Rattle.lf_marks.specs.Steps.{Mark, Marking, kid_of, kids_beneath, IsAnswer}
use Rattle.lf_marks.specs.Steps as mark
use Rattle.lf_certificate.specs.Closed.{IsFirstMissing, IsKnown, IsClosed, IsEnded}
use Rattle.lf_certificate.specs.States.{State}
use Rattle.lf_certificate.specs.Tasks.{Task, root_task, kid_task, edges_in, beneath, task_from}
use Rattle.lf_certificate.proofs.WayLemmas.{item, some_mark, kid_made, through, sharp_reaches}
use Rattle.lf_certificate.proofs.CoveringLemmas.{some_of}
use Rattle.lf_certificate.proofs.FindLemmas.{branch_answer, done_answer, misses_on_level, reaches_on_level, branch_on_level}
use Rattle.lf_certificate.proofs.EndLemmas.{last_is, answer_is}

-- ---- what is shown

shown_branch : (above : Bool) (o : Option Mark) (reach : List ℕ) (edges : List Parts) → Some (mark.Branch reach edges) ≡ shown above o
    → (o ≡ Some (mark.Branch reach edges)) × (above ≡ true)
shown_branch above None reach edges e = absurd (none-some (mark.Branch reach edges) (sym e))
shown_branch above (Some mark.Waiting) reach edges e = absurd (none-some (mark.Branch reach edges) (sym e))
shown_branch above (Some mark.Open) reach edges e = absurd (none-some (mark.Branch reach edges) (sym e))
shown_branch above (Some (mark.Claimed t)) reach edges e = absurd (none-some (mark.Branch reach edges) (sym e))
shown_branch above (Some mark.Misses) reach edges e = absurd cc
shown_branch above (Some mark.Reaches) reach edges e = absurd cc
shown_branch true (Some (mark.Branch r es)) reach edges e = (sym e, refl)
shown_branch false (Some (mark.Branch r es)) reach edges e = absurd cc

shown_misses : (above : Bool) (o : Option Mark) → Some mark.Misses ≡ shown above o → o ≡ Some mark.Misses
shown_misses above None e = absurd (none-some mark.Misses (sym e))
shown_misses above (Some mark.Waiting) e = absurd (none-some mark.Misses (sym e))
shown_misses above (Some mark.Open) e = absurd (none-some mark.Misses (sym e))
shown_misses above (Some (mark.Claimed t)) e = absurd (none-some mark.Misses (sym e))
shown_misses above (Some mark.Misses) e = refl
shown_misses above (Some mark.Reaches) e = absurd cc
shown_misses true (Some (mark.Branch r es)) e = absurd cc
shown_misses false (Some (mark.Branch r es)) e = absurd cc

-- a leaf that reaches is one, or a branch that isn't above
record IsLastBranch (above : Bool) (o : Option Mark) : Type 0 where
  reach : List ℕ
  edges : List Parts
  is : o ≡ Some (mark.Branch reach edges)
  low : above ≡ false

shown_reaches : (above : Bool) (o : Option Mark) → Some mark.Reaches ≡ shown above o → (o ≡ Some mark.Reaches) ⊎ IsLastBranch above o
shown_reaches above None e = absurd (none-some mark.Reaches (sym e))
shown_reaches above (Some mark.Waiting) e = absurd (none-some mark.Reaches (sym e))
shown_reaches above (Some mark.Open) e = absurd (none-some mark.Reaches (sym e))
shown_reaches above (Some (mark.Claimed t)) e = absurd (none-some mark.Reaches (sym e))
shown_reaches above (Some mark.Misses) e = absurd cc
shown_reaches above (Some mark.Reaches) e = inl refl
shown_reaches true (Some (mark.Branch r es)) e = absurd cc
shown_reaches false (Some (mark.Branch r es)) e = inr (record { reach = r; edges = es; is = refl; low = refl })

shown_some : (above : Bool) (o : Option Mark) → is_some (shown above o) ≡ true → is_some o ≡ true
shown_some above None e = e
shown_some above (Some m) e = refl

answer_shown : (above : Bool) (m : Mark) → IsAnswer m → is_some (shown above (Some m)) ≡ true
answer_shown above mark.Waiting a = absurd a
answer_shown above mark.Open a = absurd a
answer_shown above (mark.Claimed t) a = absurd a
answer_shown above mark.Misses a = refl
answer_shown above mark.Reaches a = refl
answer_shown above (mark.Branch r es) a = refl

-- ---- nodes and places

map_some : {X Y : Type 0} (f : X → Y) (o : Option X) → is_some (option_map f o) ≡ is_some o
map_some f None = refl
map_some f (Some x) = refl

then_same : {X : Type 0} (o : Option X) → option_and_then (λ x. Some x) o ≡ o
then_same None = refl
then_same (Some x) = refl

along_kid : (i : ℕ) (path : List ℕ) (j : ℕ) (x : Node) (o : Option Node)
    → ((n : Node) → node_along n path ≡ Some x → node_along n (kid_of path j) ≡ kid_in (out-Node x) j)
    → option_and_then (λ kid. node_along kid path) o ≡ Some x
    → option_and_then (λ kid. node_along kid (kid_of path j)) o ≡ kid_in (out-Node x) j
along_kid i path j x None ih e = absurd (none-some x e)
along_kid i path j x (Some kid) ih e = ih kid e

-- the kids of the node at the end of a path
node_kid : (path : List ℕ) (j : ℕ) (x n : Node) → node_along n path ≡ Some x → node_along n (kid_of path j) ≡ kid_in (out-Node x) j
node_kid [] j x n e = then_same (kid_in (out-Node n) j) ∙ ap (λ y. kid_in (out-Node y) j) (same_Some n x e)
node_kid (i ∷ path) j x n e = along_kid i path j x (kid_in (out-Node n) i) (λ m h. node_kid path j x m h) e

length_kid : (path : List ℕ) (i : ℕ) → length (kid_of path i) ≡ length path + 1
length_kid path i = length-append path (i ∷ [])

abbrev placed : Node → Task → Place
placed n t = record { node = n; faults = t.faults; excluded = t.excluded }

abbrev task_of : Place → Task
task_of q = record { faults = q.faults; excluded = q.excluded }

-- a kid that is there, with its edge
record KidOf (y : Node-F Node) (t : Task) (i : ℕ) (kid : Place) : Type 0 where
  reach : List ℕ
  edges : List Parts
  kids : List Node
  edge : Parts
  opened : y ≡ Node-F.Branch reach edges kids
  edge_is : slice_get edges i ≡ Some edge
  node_is : slice_get kids i ≡ Some kid.node
  same : record { faults = inserted edge t.faults; excluded = t.excluded ++ take i edges } ≡ task_of kid

kid_parts : (reach : List ℕ) (edges : List Parts) (kids : List Node) (t : Task) (i : ℕ) (kid : Place) (e : Option Parts) (k : Option Node)
    → slice_get edges i ≡ e → slice_get kids i ≡ k
    → option_and_then (λ edge. option_map (λ node. record { node = node; faults = inserted edge t.faults; excluded = t.excluded ++ take i edges }) k) e
    ≡ Some kid
    → KidOf (Node-F.Branch reach edges kids) t i kid
kid_parts reach edges kids t i kid None k e_is k_is is = absurd (none-some kid is)
kid_parts reach edges kids t i kid (Some edge) None e_is k_is is = absurd (none-some kid is)
kid_parts reach edges kids t i kid (Some edge) (Some node) e_is k_is is =
    let made : Place = record { node = node; faults = inserted edge t.faults; excluded = t.excluded ++ take i edges } in
    let same : made ≡ kid = same_Some made kid is in
    record {
      reach = reach;
      edges = edges;
      kids = kids;
      edge = edge;
      opened = refl;
      edge_is = e_is;
      node_is = k_is ∙ ap (λ (p : Place). Some p.node) same;
      same = ap task_of same;
    }

kid_by_node : (y : Node-F Node) (t : Task) (i : ℕ) (kid : Place) → places.kid_in y t.faults t.excluded i ≡ Some kid → KidOf y t i kid
kid_by_node Node-F.Misses t i kid is = absurd (none-some kid is)
kid_by_node Node-F.Reaches t i kid is = absurd (none-some kid is)
kid_by_node (Node-F.Branch reach edges kids) t i kid is =
    kid_parts reach edges kids t i kid (slice_get edges i) (slice_get kids i) refl refl is

-- what a path leads to through a kid
record Through (p : Place) (i : ℕ) (path : List ℕ) (q : Place) : Type 0 where
  kid : Place
  is : kid_at p i ≡ Some kid
  leads : place_from kid path ≡ Some q

through_kid : (p : Place) (i : ℕ) (path : List ℕ) (q : Place) (o : Option Place) → kid_at p i ≡ o
    → option_and_then (λ kid. place_from kid path) o ≡ Some q → Through p i path q
through_kid p i path q None is leads = absurd (none-some q leads)
through_kid p i path q (Some kid) is leads = record { kid = kid; is = is; leads = leads }

-- the nodes are what the marks show, from a place so far down
abbrev Shows : ℕ → ℕ → Marking → Node → Type 0
Shows level d at n = (p : List ℕ) → option_map said (node_along n p) ≡ shown (nat_lt (d + length p) level) (at p)

-- a place has the node of its path, and the task of the mark there
record IsPlaced (at : Marking) (n : Node) (t : Task) (path : List ℕ) (q : Place) : Type 0 where
  node : node_along n path ≡ Some q.node
  task : task_from at t path ≡ Some (task_of q)

shows_kid : (level d : ℕ) (at : Marking) (n kid : Node) (i : ℕ) → kid_in (out-Node n) i ≡ Some kid → Shows level d at n
    → Shows level (d + 1) (beneath at i) kid
shows_kid level d at n kid i is shows p =
    ap (λ o. option_map said (option_and_then (λ k. node_along k p) o)) (sym is) ∙ shows (i ∷ p)
    ∙ ap (λ k. shown (nat_lt k level) (at (i ∷ p))) (omega arith)

placed_at : (path : List ℕ) (level d : ℕ) (at : Marking) (n : Node) (t : Task) (q : Place) → Shows level d at n
    → place_from (placed n t) path ≡ Some q → IsPlaced at n t path q
placed_at [] level d at n t q shows leads =
    let same : placed n t ≡ q = same_Some (placed n t) q leads in
    record { node = ap (λ (p : Place). Some p.node) same; task = ap (λ p. Some (task_of p)) same }
placed_at (i ∷ path) level d at n t q shows leads =
    let th = through_kid (placed n t) i path q (kid_at (placed n t) i) refl leads in
    let k = kid_by_node (out-Node n) t i th.kid th.is in
    let node_is : kid_in (out-Node n) i ≡ Some th.kid.node = ap (λ y. kid_in y i) k.opened ∙ k.node_is in
    let here : at [] ≡ Some (mark.Branch k.reach k.edges) =
    (shown_branch (nat_lt (d + length {A = ℕ} []) level) (at []) k.reach k.edges (ap (λ y. Some (said_in y)) (sym k.opened) ∙ shows [])).0 in
    let kid_is : kid_task t (edges_in (at [])) i ≡ Some (task_of th.kid) =
    ap (λ o. kid_task t (edges_in o) i) here ∙ kid_made t k.edges i k.edge k.edge_is ∙ ap (λ u. Some u) k.same in
    let r =
    placed_at path level (d + 1) (beneath at i) th.kid.node (task_of th.kid) q (shows_kid level d at n th.kid.node i node_is shows) th.leads in
    record {
      node = ap (λ o. option_and_then (λ m. node_along m path) o) node_is ∙ r.node;
      task = through at t (task_of th.kid) i path kid_is ∙ r.task;
    }

-- ---- the tree

below_lengths : {X Y : Type 0} (xs : List X) (ys : List Y) → ((i : ℕ) → i < length xs → i < length ys)
    → ((i : ℕ) → i < length ys → i < length xs) → length xs ≡ length ys
below_lengths xs ys to from = elim (cases_lt (length xs) (length ys)) [
  | inl less ↦ let never = from (length xs) less in omega (arith, never)
  | inr more ↦ elim (cases_lt (length ys) (length xs)) [
    | inl less ↦ let never = to (length ys) less in omega (arith, never)
    | inr same ↦ omega (arith, more, same)
  ]
]

get_within : {X : Type 0} (xs : List X) (i : ℕ) → is_some (slice_get xs i) ≡ true → i < length xs
get_within xs i there =
    let x = some_of (slice_get xs i) there in
    slice_get_within xs i x.0 x.1

module _ {Local Note Fact : Type 0} (w : World Local Note Fact) (b : Bounds) (formula : Formula Fact) (most : ℕ) (s : State)
    (bounded : IsBounded w b) (closed : IsClosed w b formula most s) (ended : IsEnded w b formula s) (root : Node)
    (tree : nodes.IsTreeOf s.level s.marks root) where
  shows : Shows s.level 0 s.marks root
  shows p = tree p ∙ ap (λ k. shown (nat_lt k s.level) (s.marks p)) (omega arith)

  module _ (path : List ℕ) (q : Place) (placed_is : IsPlaced s.marks root root_task path q) where
    says : (y : Node-F Node) → out-Node q.node ≡ y → Some (said_in y) ≡ shown (nat_lt (length path) s.level) (s.marks path)
    says y opened = ap (λ z. Some (said_in z)) (sym opened) ∙ ap (λ o. option_map said o) (sym placed_is.node) ∙ tree path

    -- a kid of a branch above the level is answered, so it has its node
    kid_node : (i : ℕ) (reach : List ℕ) (edges : List Parts) → s.marks path ≡ Some (mark.Branch reach edges) → length path < s.level → i < length edges
        → is_some (s.marks (kid_of path i)) ≡ true → is_some (shown (nat_lt (length (kid_of path i)) s.level) (s.marks (kid_of path i))) ≡ true
    kid_node i reach edges here above few there =
        let m = some_mark (s.marks (kid_of path i)) there in
        ap (λ o. is_some (shown (nat_lt (length (kid_of path i)) s.level) o)) m.1
        ∙ answer_shown (nat_lt (length (kid_of path i)) s.level) m.0 (kid_answer m.0 m.1)
      where
        kid_answer : (m : Mark) → s.marks (kid_of path i) ≡ Some m → IsAnswer m
        kid_answer m is = elim (cases_lt (length (kid_of path i)) s.level) [
          | inl high ↦ branch_answer m (closed.branches (kid_of path i) m is high)
          | inr low ↦ done_answer w b formula most s bounded closed ended.done (kid_of path i) m is (omega (arith, low, above, length_kid path i))
        ]

    kids_same : (reach : List ℕ) (edges : List Parts) (kids : List Node) → out-Node q.node ≡ Node-F.Branch reach edges kids
        → s.marks path ≡ Some (mark.Branch reach edges) → length path < s.level → length kids ≡ length edges
    kids_same reach edges kids opened here above = below_lengths kids edges
        (λ i few.
        let m = closed.shape.parents path i (kid_stands i few) in
        let same : m.0 ≡ mark.Branch reach edges = same_Some m.0 (mark.Branch reach edges) (sym m.1 ∙ here) in
        subst (λ k. i < kids_beneath k) same m.2)
        (λ i few.
        let there = closed.shape.kids path (mark.Branch reach edges) i here few in
        get_within kids i (sym (map_some said (slice_get kids i)) ∙ ap is_some (kid_says i) ∙ kid_node i reach edges here above few there))
      where
        kid_says : (i : ℕ) → option_map said (slice_get kids i) ≡ shown (nat_lt (length (kid_of path i)) s.level) (s.marks (kid_of path i))
        kid_says i =
            ap (λ y. option_map said (kid_in y i)) (sym opened)
            ∙ ap (λ o. option_map said o) (sym (node_kid path i q.node root placed_is.node)) ∙ tree (kid_of path i)

        kid_stands : (i : ℕ) → i < length kids → IsSome (s.marks (kid_of path i))
        kid_stands i few =
            let e = item kids i few in
            shown_some (nat_lt (length (kid_of path i)) s.level) (s.marks (kid_of path i))
            (ap is_some (sym (kid_says i)) ∙ ap (λ o. is_some (option_map said o)) e.1)

    known_at : (m : Mark) → s.marks path ≡ Some m → IsKnown w b formula (task_of q) m
    known_at m here = closed.known path m (task_of q) here placed_is.task

    grown_by : (y : Node-F Node) → out-Node q.node ≡ y → IsGrownNode w b formula s.level (length path) q.faults q.excluded y
    grown_by Node-F.Misses opened =
        let here = shown_misses (nat_lt (length path) s.level) (s.marks path) (says Node-F.Misses opened) in
        record { here = misses_on_level w b formula most s bounded closed path here; truth = known_at mark.Misses here }
    grown_by Node-F.Reaches opened = elim (shown_reaches (nat_lt (length path) s.level) (s.marks path) (says Node-F.Reaches opened)) [
      | inl here ↦ record {
        here = reaches_on_level w b formula most s bounded closed path here;
        truth = (known_at mark.Reaches here).reaching;
      }
      | inr last ↦ record {
        here = branch_on_level w b formula most s bounded closed path last.reach last.edges last.is last.low;
        truth = sharp_reaches w b formula q.faults last.reach (known_at (mark.Branch last.reach last.edges) last.is).sharp;
      }
    ]
    grown_by (Node-F.Branch reach edges kids) opened =
        let here = shown_branch (nat_lt (length path) s.level) (s.marks path) reach edges (says (Node-F.Branch reach edges kids) opened) in
        let above : length path < s.level = ltb-true (length path) s.level here.1 in
        let k = known_at (mark.Branch reach edges) here.0 in
        record { above = above; sharp = k.sharp; required = k.required; each = kids_same reach edges kids opened here.0 above }

  -- the tree of the search
  pub tree_is : (answer : Option (List Parts)) → IsFirstMissing s.marks answer → IsTreeOf w b formula (record { answer = answer; root = root })
  tree_is answer first = record {
    answer = answer_is w b formula most s bounded closed ended answer first;
    places = λ path q leads.
        let here = placed_at path s.level 0 s.marks root root_task q shows leads in
        subst (λ last. IsGrown w b formula last (length path) q) (sym (last_is w b formula most s bounded closed ended answer first))
        (grown_by path q here (out-Node q.node) refl);
  }
