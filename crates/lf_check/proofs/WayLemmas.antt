-- The ways to the nodes of a tree: each place has one, and they stand in the order in which the places are visited.
use Rattle.std.proofs.Common.{◌≡◌, ℕ, zero, suc, ◌+◌, ◌<◌, ◌≤◌, true, false, List, [], ◌∷◌, ◌++◌, map, take}
use Rattle.std.proofs.Common.{refl, sym, ap, ◌∙◌, subst, append_assoc, arith, inl, inr}
use Rattle.std.specs.Prelude.{◌⊎◌, slice_get, Option, None, Some}
use Rattle.std.specs.List.{AllByRecursion}
use Rattle.std.specs.declared.cmp.Ordering.{Ordering}
use Rattle.std.specs.declared.cmp.Ordering.TheVariants.{Less, Equal, Greater}
use Rattle.std.specs.Ordering.{nat_cmp, ordering_then, is_lt}
use Rattle.std.specs.Option.{option_map, option_and_then}
use Rattle.std.specs.Cmp.Lexicographic.{slice_cmp}
use Rattle.std.specs.Cmp.{nat_cmp_is}
use Rattle.std.proofs.lemmas.Cmp.{ranked}
use Rattle.std.proofs.lemmas.Bool.{cases_lt, both_ways, false≢true}
use Rattle.std.proofs.lemmas.List.{append-nil}
use Rattle.std.proofs.lemmas.Option.{none-some, same_Some, slice_get-map}
use Rattle.lf_faults.specs.declared.fault.Parts.{Parts}
use Rattle.lf_faults.specs.Faults.{inserted}
use Rattle.lf_tree.specs.declared.tree.Tree.{Tree}
use Rattle.lf_tree.specs.declared.tree.Node.{Node, out-Node, roll-Node, roll-out-Node}
use Rattle.lf_tree.specs.declared.tree.Node.TheVariants.{rolls-Misses, rolls-Reaches, rolls-Branch}
use Rattle.lf_tree.specs.declared.tree.Node.TheVariants as kind
use Rattle.lf_tree.specs.declared.tree.Node.TheOpen.{Node-F}
use Rattle.lf_tree.specs.declared.tree.Node.TheFolds.{ind-Node, map-Node}
use Rattle.lf_tree.specs.Heirs.{inherited, inherited_by}
use Rattle.lf_tree.proofs.Laws.{inherited-leaf, inherited-Branch}
use Rattle.lf_certificate.specs.Places.{Place, kid_in, kid_at, place_from, root_of, place_at}
use Rattle.lf_certificate.specs.Faults.{path_is_before}
use Rattle.lf_check.specs.Rows.{way_on, ways_of}

-- The order of ways
no_order : (n : ℕ) → nat_cmp n n ≡ Equal
no_order n = sym (nat_cmp_is n n Equal refl)

less_order : (n m : ℕ) → n < m → nat_cmp n m ≡ Less
less_order n m few = sym (nat_cmp_is n m Less few)

before_more : (way x y : List ℕ) → path_is_before (way ++ x) (way ++ y) ≡ path_is_before x y
before_more [] x y = refl
before_more (i ∷ way) x y = ap (λ o. is_lt (ordering_then o (slice_cmp nat_cmp (way ++ x) (way ++ y)))) (no_order i) ∙ before_more way x y

before_longer : (way : List ℕ) (i : ℕ) (rest : List ℕ) → path_is_before way (way ++ i ∷ rest) ≡ true
before_longer [] i rest = refl
before_longer (j ∷ way) i rest = ap (λ o. is_lt (ordering_then o (slice_cmp nat_cmp way (way ++ i ∷ rest)))) (no_order j) ∙ before_longer way i rest

before_sibling : (way : List ℕ) (i j : ℕ) (x y : List ℕ) → i < j → path_is_before (way ++ i ∷ x) (way ++ j ∷ y) ≡ true
before_sibling way i j x y few =
    before_more way (i ∷ x) (j ∷ y) ∙ ap (λ o. is_lt (ordering_then o (slice_cmp nat_cmp x y))) (less_order i j few)

pub before_not_itself : (way : List ℕ) → path_is_before way way ≡ false
before_not_itself [] = refl
before_not_itself (i ∷ way) = ap (λ o. is_lt (ordering_then o (slice_cmp nat_cmp way way))) (no_order i) ∙ before_not_itself way

-- of two numbers in order neither comes after the other
flipped : (o u : Ordering) (i j : ℕ) (x y : List ℕ) → o ≡ nat_cmp i j → u ≡ nat_cmp j i
    → (is_lt (slice_cmp nat_cmp x y) ≡ true → is_lt (slice_cmp nat_cmp y x) ≡ true → ⊥)
    → is_lt (ordering_then o (slice_cmp nat_cmp x y)) ≡ true → is_lt (ordering_then u (slice_cmp nat_cmp y x)) ≡ true → ⊥
flipped Greater u i j x y o_is u_is more h k = false≢true h
flipped o Greater i j x y o_is u_is more h k = false≢true k
flipped Equal Equal i j x y o_is u_is more h k = more h k
flipped Equal Less i j x y o_is u_is more h k =
    let same : i ≡ j = ranked i j Equal o_is in let less : j < i = ranked j i Less u_is in omega arith
flipped Less Equal i j x y o_is u_is more h k =
    let same : j ≡ i = ranked j i Equal u_is in let less : i < j = ranked i j Less o_is in omega arith
flipped Less Less i j x y o_is u_is more h k =
    let one : i < j = ranked i j Less o_is in let other : j < i = ranked j i Less u_is in omega arith

pub before_one_way : (x y : List ℕ) → path_is_before x y ≡ true → path_is_before y x ≡ true → ⊥
before_one_way [] [] h k = false≢true h
before_one_way [] (j ∷ y) h k = false≢true k
before_one_way (i ∷ x) [] h k = false≢true h
before_one_way (i ∷ x) (j ∷ y) h k = flipped (nat_cmp i j) (nat_cmp j i) i j x y refl refl (before_one_way x y) h k

-- Induction on nodes
module _ (Q : Node → Type 0) where
  record Steps : Type 0 where
    misses : Q kind.Misses
    reaches : Q kind.Reaches
    branch : (reach : List ℕ) (edges : List Parts) (kids : List Node) → AllByRecursion Q kids → Q (kind.Branch reach edges kids)

  each : (proved : List ((n : Node) × Q n)) → AllByRecursion Q (map (λ e. e.0) proved)
  each [] = tt
  each (e ∷ es) = (e.1, each es)

  layer : Steps → (y : Node-F ((n : Node) × Q n)) → Q (roll-Node (map-Node ((n : Node) × Q n) Node (λ e. e.0) y))
  layer steps Node-F.Misses = subst Q (sym rolls-Misses) steps.misses
  layer steps Node-F.Reaches = subst Q (sym rolls-Reaches) steps.reaches
  layer steps (Node-F.Branch reach edges proved) =
      subst Q (sym (rolls-Branch reach edges (map (λ e. e.0) proved))) (steps.branch reach edges (map (λ e. e.0) proved) (each proved))

  by_induction : Steps → (n : Node) → Q n
  by_induction steps = ind-Node Q (λ x y is. subst (λ z. Q (roll-Node z)) is (layer steps y))

-- Lists of nodes with the ways to them, in order
abbrev Way : Type 0
Way = List ℕ × Node

abbrev AreSorted : List Way → Type 0
AreSorted [] = Unit {0}
AreSorted (x ∷ xs) = AllByRecursion (λ (y : Way). path_is_before x.0 y.0 ≡ true) xs × AreSorted xs

module _ {X : Type 0} (P : X → Type 0) where
  all_append : (xs ys : List X) → AllByRecursion P xs → AllByRecursion P ys → AllByRecursion P (xs ++ ys)
  all_append [] ys h k = k
  all_append (x ∷ xs) ys h k = (h.0, all_append xs ys h.1 k)

  all_at : (xs : List X) (k : ℕ) (x : X) → AllByRecursion P xs → slice_get xs k ≡ Some x → P x
  all_at [] k x h is = absurd (none-some x is)
  all_at (y ∷ xs) zero x h is = subst P (same_Some y x is) h.0
  all_at (y ∷ xs) (suc k) x h is = all_at xs k x h.1 is

all_more : {X : Type 0} (P Q : X → Type 0) (xs : List X) → ((x : X) → P x → Q x) → AllByRecursion P xs → AllByRecursion Q xs
all_more P Q [] to h = tt
all_more P Q (x ∷ xs) to h = (to x h.0, all_more P Q xs to h.1)

sorted_append : (xs ys : List Way) → AreSorted xs → AreSorted ys
    → AllByRecursion (λ (x : Way). AllByRecursion (λ (y : Way). path_is_before x.0 y.0 ≡ true) ys) xs → AreSorted (xs ++ ys)
sorted_append [] ys h k across = k
sorted_append (x ∷ xs) ys h k across =
    (all_append (λ (y : Way). path_is_before x.0 y.0 ≡ true) xs ys h.0 across.0, sorted_append xs ys h.1 k across.1)

sorted_at : (xs : List Way) (j k : ℕ) (x y : Way) → AreSorted xs → j < k → slice_get xs j ≡ Some x → slice_get xs k ≡ Some y
    → path_is_before x.0 y.0 ≡ true
sorted_at [] j k x y h less j_is k_is = absurd (none-some x j_is)
sorted_at (z ∷ xs) j zero x y h less j_is k_is = let never : ⊥ = omega arith in absurd never
sorted_at (z ∷ xs) zero (suc k) x y h less j_is k_is =
    subst (λ (a : Way). path_is_before a.0 y.0 ≡ true) (same_Some z x j_is) (all_at (λ (b : Way). path_is_before z.0 b.0 ≡ true) xs k y h.0 k_is)
sorted_at (z ∷ xs) (suc j) (suc k) x y h less j_is k_is = sorted_at xs j k x y h.1 (omega arith) j_is k_is

-- a way that goes on from another, or through a kid no earlier than one
abbrev GoesOn : List ℕ → Way → Type 0
GoesOn way x = (rest : List ℕ) × (x.0 ≡ way ++ rest)

abbrev GoesThrough : List ℕ → ℕ → Way → Type 0
GoesThrough way kid x = (i : ℕ) × (rest : List ℕ) × (kid ≤ i) × (x.0 ≡ way ++ i ∷ rest)

-- what holds of the ways to a node and to all beneath it
record InOrder (n : Node) : Type 0 where
  on : (way : List ℕ) → AllByRecursion (GoesOn way) (inherited way_on n way)
  sorted : (way : List ℕ) → AreSorted (inherited way_on n way)

through_kid : (way : List ℕ) (kid : ℕ) (x : Way) → GoesOn (way ++ kid ∷ []) x → GoesThrough way kid x
through_kid way kid x on = (kid, on.0, omega arith, on.1 ∙ append_assoc way (kid ∷ []) on.0)

kids_through : (branch : Node) (way : List ℕ) (kid : ℕ) (kids : List Node) → AllByRecursion InOrder kids
    → AllByRecursion (GoesThrough way kid) (inherited_by way_on branch way kid kids)
kids_through branch way kid [] h = tt
kids_through branch way kid (k ∷ ks) h =
    all_append (GoesThrough way kid) (inherited way_on k (way ++ kid ∷ [])) (inherited_by way_on branch way (kid + 1) ks)
    (all_more (GoesOn (way ++ kid ∷ [])) (GoesThrough way kid) (inherited way_on k (way ++ kid ∷ [])) (through_kid way kid) (h.0.on (way ++ kid ∷ [])))
    (all_more (GoesThrough way (kid + 1)) (GoesThrough way kid) (inherited_by way_on branch way (kid + 1) ks)
    (λ x t. let more : kid + 1 ≤ t.0 = t.2 in (t.0, t.1, omega arith, t.3)) (kids_through branch way (kid + 1) ks h.1))

kids_sorted : (branch : Node) (way : List ℕ) (kid : ℕ) (kids : List Node) → AllByRecursion InOrder kids
    → AreSorted (inherited_by way_on branch way kid kids)
kids_sorted branch way kid [] h = tt
kids_sorted branch way kid (k ∷ ks) h =
    let mine : List Way = inherited way_on k (way ++ kid ∷ []) in
    let later : List Way = inherited_by way_on branch way (kid + 1) ks in
    let through = kids_through branch way (kid + 1) ks h.1 in
    sorted_append mine later (h.0.sorted (way ++ kid ∷ [])) (kids_sorted branch way (kid + 1) ks h.1)
    (all_more (GoesOn (way ++ kid ∷ [])) (λ (x : Way). AllByRecursion (λ (y : Way). path_is_before x.0 y.0 ≡ true) later) mine
    (λ x on. all_more (GoesThrough way (kid + 1)) (λ (y : Way). path_is_before x.0 y.0 ≡ true) later
    (λ y t.
    let more : kid + 1 ≤ t.0 = t.2 in
    let less : kid < t.0 = omega arith in
    let mine_is : x.0 ≡ way ++ kid ∷ on.0 = on.1 ∙ append_assoc way (kid ∷ []) on.0 in
    subst (λ a. path_is_before a y.0 ≡ true) (sym mine_is)
    (subst (λ c. path_is_before (way ++ kid ∷ on.0) c ≡ true) (sym t.3) (before_sibling way kid t.0 on.0 t.1 less))) through)
    (h.0.on (way ++ kid ∷ [])))

leaf_in_order : (n : Node) → (n ≡ kind.Misses) ⊎ (n ≡ kind.Reaches) → InOrder n
leaf_in_order n leaf = record {
  on = λ way. subst (AllByRecursion (GoesOn way)) (sym (inherited-leaf way_on n way leaf)) (([], sym (append-nil way)), tt);
  sorted = λ way. subst AreSorted (sym (inherited-leaf way_on n way leaf)) (tt, tt);
}

in_order : (n : Node) → InOrder n
in_order = by_induction InOrder (record {
  misses = leaf_in_order kind.Misses (inl refl);
  reaches = leaf_in_order kind.Reaches (inr refl);
  branch = λ reach edges kids h. record {
    on = λ way. subst (AllByRecursion (GoesOn way)) (sym (inherited-Branch way_on reach edges kids way)) (
      ([], sym (append-nil way)),
      all_more (GoesThrough way 0) (GoesOn way) (inherited_by way_on (kind.Branch reach edges kids) way 0 kids)
          (λ x t. (t.0 ∷ t.1, t.3)) (kids_through (kind.Branch reach edges kids) way 0 kids h),
    );
    sorted = λ way. subst AreSorted (sym (inherited-Branch way_on reach edges kids way)) (
      all_more (GoesThrough way 0) (λ (y : Way). path_is_before way y.0 ≡ true) (inherited_by way_on (kind.Branch reach edges kids) way 0 kids)
          (λ x t. subst (λ a. path_is_before way a ≡ true) (sym t.3) (before_longer way t.0 t.1))
          (kids_through (kind.Branch reach edges kids) way 0 kids h),
      kids_sorted (kind.Branch reach edges kids) way 0 kids h,
    );
  };
})

-- A kid that is there, with its edge
pub record KidOf (n : Node) (faults excluded : List Parts) (i : ℕ) (kid : Place) : Type 0 where
  pub reach : List ℕ
  pub edges : List Parts
  pub kids : List Node
  pub edge : Parts
  pub opened : out-Node n ≡ Node-F.Branch reach edges kids
  pub edge_is : slice_get edges i ≡ Some edge
  pub node_is : slice_get kids i ≡ Some kid.node
  pub faults_is : kid.faults ≡ inserted edge faults
  pub excluded_is : kid.excluded ≡ excluded ++ take i edges

both_there : (n : Node) (reach : List ℕ) (edges : List Parts) (kids : List Node) (faults excluded : List Parts) (i : ℕ) (kid : Place)
    (e : Option Parts) (k : Option Node) → out-Node n ≡ Node-F.Branch reach edges kids → slice_get edges i ≡ e → slice_get kids i ≡ k
    → option_and_then (λ (edge : Parts). option_map (λ (node : Node). let made : Place = record {
      node = node;
      faults = inserted edge faults;
      excluded = excluded ++ take i edges;
    } in made) k) e ≡ Some kid
    → KidOf n faults excluded i kid
both_there n reach edges kids faults excluded i kid None k opened e_is k_is is = absurd (none-some kid is)
both_there n reach edges kids faults excluded i kid (Some edge) None opened e_is k_is is = absurd (none-some kid is)
both_there n reach edges kids faults excluded i kid (Some edge) (Some node) opened e_is k_is is =
    let made : Place = record { node = node; faults = inserted edge faults; excluded = excluded ++ take i edges } in
    let same : made ≡ kid = same_Some made kid is in
    record {
      reach = reach;
      edges = edges;
      kids = kids;
      edge = edge;
      opened = opened;
      edge_is = e_is;
      node_is = k_is ∙ ap (λ p. Some p.node) same;
      faults_is = sym (ap (λ p. p.faults) same);
      excluded_is = sym (ap (λ p. p.excluded) same);
    }

kid_by_level : (n : Node) (y : Node-F Node) (faults excluded : List Parts) (i : ℕ) (kid : Place) → out-Node n ≡ y
    → kid_in y faults excluded i ≡ Some kid → KidOf n faults excluded i kid
kid_by_level n Node-F.Misses faults excluded i kid opened is = absurd (none-some kid is)
kid_by_level n Node-F.Reaches faults excluded i kid opened is = absurd (none-some kid is)
kid_by_level n (Node-F.Branch reach edges kids) faults excluded i kid opened is =
    both_there n reach edges kids faults excluded i kid (slice_get edges i) (slice_get kids i) opened refl refl is

pub kid_there : (p kid : Place) (i : ℕ) → kid_at p i ≡ Some kid → KidOf p.node p.faults p.excluded i kid
kid_there p kid i is = kid_by_level p.node (out-Node p.node) p.faults p.excluded i kid refl is

-- what a way leads to through a kid
pub record Through (p : Place) (i : ℕ) (way : List ℕ) (q : Place) : Type 0 where
  pub kid : Place
  pub is : kid_at p i ≡ Some kid
  pub leads : place_from kid way ≡ Some q

through_one : (p : Place) (i : ℕ) (way : List ℕ) (q : Place) (o : Option Place) → kid_at p i ≡ o
    → option_and_then (λ kid. place_from kid way) o ≡ Some q → Through p i way q
through_one p i way q None is leads = absurd (none-some q leads)
through_one p i way q (Some kid) is leads = record { kid = kid; is = is; leads = leads }

pub through : (p : Place) (i : ℕ) (way : List ℕ) (q : Place) → place_from p (i ∷ way) ≡ Some q → Through p i way q
through p i way q leads = through_one p i way q (kid_at p i) refl leads

-- a way that goes on by one kid
pub record Last (p : Place) (way : List ℕ) (i : ℕ) (q : Place) : Type 0 where
  pub branch : Place
  pub leads : place_from p way ≡ Some branch
  pub is : kid_at branch i ≡ Some q

one_kid : (p : Place) (i : ℕ) (q : Place) (o : Option Place) → kid_at p i ≡ o → option_and_then (λ kid. place_from kid []) o ≡ Some q → o ≡ Some q
one_kid p i q None is leads = absurd (none-some q leads)
one_kid p i q (Some kid) is leads = leads

pub last_kid : (way : List ℕ) (p : Place) (i : ℕ) (q : Place) → place_from p (way ++ i ∷ []) ≡ Some q → Last p way i q
last_kid [] p i q leads = record { branch = p; leads = refl; is = one_kid p i q (kid_at p i) refl leads }
last_kid (j ∷ way) p i q leads =
    let t = through p j (way ++ i ∷ []) q leads in
    let later = last_kid way t.kid i q t.leads in
    record {
      branch = later.branch;
      leads = ap (λ o. option_and_then (λ kid. place_from kid way) o) t.is ∙ later.leads;
      is = later.is;
    }

pub kid_leads : (way : List ℕ) (p branch : Place) (i : ℕ) (q : Place) → place_from p way ≡ Some branch → kid_at branch i ≡ Some q
    → place_from p (way ++ i ∷ []) ≡ Some q
kid_leads [] p branch i q leads is =
    ap (λ (o : Option Place). option_and_then (λ (r : Place). option_and_then (λ kid. place_from kid []) (kid_at r i)) o) leads
    ∙ ap (λ (o : Option Place). option_and_then (λ kid. place_from kid []) o) is
kid_leads (j ∷ way) p branch i q leads is =
    let t = through p j way branch leads in
    ap (λ (o : Option Place). option_and_then (λ kid. place_from kid (way ++ i ∷ [])) o) t.is ∙ kid_leads way t.kid branch i q t.leads is

-- Each place has a node of the list
record Listed (xs : List Way) (x : Way) : Type 0 where
  at : ℕ
  is : slice_get xs at ≡ Some x

listed_left : (xs ys : List Way) (x : Way) → Listed xs x → Listed (xs ++ ys) x
listed_left xs ys x h = record { at = h.at; is = left xs h.at h.is }
  where
    left : (zs : List Way) (k : ℕ) → slice_get zs k ≡ Some x → slice_get (zs ++ ys) k ≡ Some x
    left [] k is = absurd (none-some x is)
    left (z ∷ zs) zero is = is
    left (z ∷ zs) (suc k) is = left zs k is

listed_right : (xs ys : List Way) (x : Way) → Listed ys x → Listed (xs ++ ys) x
listed_right [] ys x h = h
listed_right (y ∷ xs) ys x h =
    let later = listed_right xs ys x h in
    record { at = suc later.at; is = later.is }

kid_listed : (branch : Node) (way : List ℕ) (kid : ℕ) (kids : List Node) (i : ℕ) (node : Node) (x : Way) → slice_get kids i ≡ Some node
    → Listed (inherited way_on node (way ++ (kid + i) ∷ [])) x → Listed (inherited_by way_on branch way kid kids) x
kid_listed branch way kid [] i node x is h = absurd (none-some node is)
kid_listed branch way kid (k ∷ ks) zero node x is h =
    let here : kid + 0 ≡ kid = omega arith in
    listed_left (inherited way_on k (way ++ kid ∷ [])) (inherited_by way_on branch way (kid + 1) ks) x
    (subst (λ m. Listed (inherited way_on m (way ++ kid ∷ [])) x) (sym (same_Some k node is))
    (subst (λ j. Listed (inherited way_on node (way ++ j ∷ [])) x) here h))
kid_listed branch way kid (k ∷ ks) (suc i) node x is h =
    let there : kid + suc i ≡ (kid + 1) + i = omega arith in
    listed_right (inherited way_on k (way ++ kid ∷ [])) (inherited_by way_on branch way (kid + 1) ks) x
    (kid_listed branch way (kid + 1) ks i node x is (subst (λ j. Listed (inherited way_on node (way ++ j ∷ [])) x) there h))

rolled : (n : Node) (reach : List ℕ) (edges : List Parts) (kids : List Node) → out-Node n ≡ Node-F.Branch reach edges kids
    → n ≡ kind.Branch reach edges kids
rolled n reach edges kids opened = sym (roll-out-Node n) ∙ ap roll-Node opened ∙ rolls-Branch reach edges kids

place_listed : (rest way : List ℕ) (p q : Place) → place_from p rest ≡ Some q → Listed (inherited way_on p.node way) (way ++ rest, q.node)
place_listed [] way p q leads =
    let whole : List Way = inherited way_on p.node way in
    record {
      at = 0;
      is = ap (λ (o : Option Place). option_map (λ (r : Place). let x : Way = (way, r.node) in x) o) leads
          ∙ ap (λ a. let o : Option Way = Some (a, q.node) in o) (sym (append-nil way));
    }
place_listed (i ∷ rest) way p q leads =
    let t = through p i rest q leads in
    let k = kid_there p t.kid i t.is in
    let branch : Node = kind.Branch k.reach k.edges k.kids in
    let is : p.node ≡ branch = rolled p.node k.reach k.edges k.kids k.opened in
    let here : i ≡ 0 + i = omega arith in
    let x : Way = (way ++ i ∷ rest, q.node) in
    let later : Listed (inherited way_on t.kid.node (way ++ i ∷ [])) x =
    subst (λ a. Listed (inherited way_on t.kid.node (way ++ i ∷ [])) (a, q.node)) (append_assoc way (i ∷ []) rest)
    (place_listed rest (way ++ i ∷ []) t.kid q t.leads) in
    let among : Listed (inherited_by way_on branch way 0 k.kids) x =
    kid_listed branch way 0 k.kids i t.kid.node x k.node_is
    (subst (λ j. Listed (inherited way_on t.kid.node (way ++ j ∷ [])) x) here later) in
    subst (λ n. Listed (inherited way_on n way) x) (sym is)
    (subst (λ xs. Listed xs x) (sym (inherited-Branch way_on k.reach k.edges k.kids way)) (record { at = suc among.at; is = among.is }))

-- the nodes of a tree, each with the way to it
abbrev pub all_ways : Tree → List (List ℕ × Node)
all_ways tree = inherited way_on tree.root []

-- Each place of a tree has a node of the list, with the way to it;
pub record HasNode (tree : Tree) (way : List ℕ) (p : Place) : Type 0 where
  pub at : ℕ
  pub is : slice_get (all_ways tree) at ≡ Some (way, p.node)
  pub way_is : slice_get (ways_of tree) at ≡ Some way

pub has_node : (tree : Tree) (way : List ℕ) (p : Place) → place_at tree way ≡ Some p → HasNode tree way p
has_node tree way p leads =
    let found = place_listed way [] (root_of tree) p leads in
    record {
      at = found.at;
      is = found.is;
      way_is = slice_get-map (λ (e : List ℕ × Node). e.0) (all_ways tree) found.at ∙ ap (option_map (λ (e : List ℕ × Node). e.0)) found.is;
    }

-- the ways stand in the order in which the places are visited,
record FromWays (tree : Tree) (at : ℕ) (way : List ℕ) : Type 0 where
  node : Node
  is : slice_get (all_ways tree) at ≡ Some (way, node)

from_ways : (tree : Tree) (at : ℕ) (way : List ℕ) → slice_get (ways_of tree) at ≡ Some way → FromWays tree at way
from_ways tree at way is = by (slice_get (all_ways tree) at) refl (sym (slice_get-map (λ (e : List ℕ × Node). e.0) (all_ways tree) at) ∙ is)
  where
    by : (o : Option Way) → slice_get (all_ways tree) at ≡ o → option_map (λ (e : Way). e.0) o ≡ Some way → FromWays tree at way
    by None there mapped = absurd (none-some way mapped)
    by (Some x) there mapped =
        record { node = x.1; is = there ∙ ap (λ a. let o : Option Way = Some (a, x.1) in o) (same_Some x.0 way mapped) }

pub ways_ordered : (tree : Tree) (j k : ℕ) (x y : List ℕ) → j < k → slice_get (ways_of tree) j ≡ Some x → slice_get (ways_of tree) k ≡ Some y
    → path_is_before x y ≡ true
ways_ordered tree j k x y less j_is k_is =
    let one = from_ways tree j x j_is in
    let other = from_ways tree k y k_is in
    sorted_at (all_ways tree) j k (x, one.node) (y, other.node) ((in_order tree.root).sorted []) less one.is other.is

-- so what comes before stands before,
pub stands_before : (tree : Tree) (j k : ℕ) (x y : List ℕ) → path_is_before x y ≡ true → slice_get (ways_of tree) j ≡ Some x
    → slice_get (ways_of tree) k ≡ Some y → j < k
stands_before tree j k x y before j_is k_is = elim (cases_lt j k) [
  | inl less ↦ less
  | inr more ↦ elim (cases_lt k j) [
    | inl after ↦ absurd (before_one_way x y before (ways_ordered tree k j y x after k_is j_is))
    | inr least ↦
        let same : j ≡ k = omega arith in
        let one : x ≡ y = same_Some x y (sym j_is ∙ ap (slice_get (ways_of tree)) same ∙ k_is) in
        absurd (both_ways (path_is_before x y) (subst (λ a. path_is_before x a ≡ false) one (before_not_itself x)) before)
  ]
]

-- and no way stands there twice
pub way_once : (tree : Tree) (j k : ℕ) (x : List ℕ) → slice_get (ways_of tree) j ≡ Some x → slice_get (ways_of tree) k ≡ Some x → j ≡ k
way_once tree j k x j_is k_is = elim (cases_lt j k) [
  | inl less ↦ absurd (both_ways (path_is_before x x) (before_not_itself x) (ways_ordered tree j k x x less j_is k_is))
  | inr more ↦ elim (cases_lt k j) [
    | inl after ↦ absurd (both_ways (path_is_before x x) (before_not_itself x) (ways_ordered tree k j x x after k_is j_is))
    | inr least ↦ omega arith
  ]
]
