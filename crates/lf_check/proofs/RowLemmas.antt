-- The rows of a tree with the ways to their nodes: how a row hangs in the row of its branch, and what it gets from there.
use Rattle.std.proofs.Common.{◌≡◌, ℕ, zero, suc, ◌+◌, ◌<◌, List, [], ◌∷◌, ◌++◌, length, map, take}
use Rattle.std.proofs.Common.{refl, sym, ap, ◌∙◌, subst, append_assoc, arith, inl, inr}
use Rattle.std.specs.Prelude.{◌↔◌, slice_get, IsSome, Option, None, Some}
use Rattle.std.specs.List.{Contains}
use Rattle.std.specs.Option.{IfSome, option_map, option_and_then}
use Rattle.std.proofs.lemmas.Bool.{false≢true}
use Rattle.std.proofs.lemmas.List.{length-map}
use Rattle.std.proofs.lemmas.Option.{none-some, same_Some, slice_get-map, slice_get_within, get_or_from_slice_get}
use Rattle.lf_faults.specs.declared.fault.Parts.{Parts}
use Rattle.lf_faults.specs.Faults.{inserted}
use Rattle.lf_faults.proofs.Laws.{length-inserted}
use Rattle.lf_tree.specs.declared.tree.Tree.{Tree}
use Rattle.lf_tree.specs.declared.tree.Node.{Node, out-Node}
use Rattle.lf_tree.specs.declared.tree.Node.TheOpen.{Node-F}
use Rattle.lf_tree.specs.Heirs.{AreLinked, kids_in, kids_of}
use Rattle.lf_tree.specs.declared.preorder.Row.{Row}
use Rattle.lf_tree.specs.Rows.{Seen, rows_of, seen}
use Rattle.lf_tree.proofs.Laws.{linked}
use Rattle.lf_certificate.specs.Places.{Place, kid_in, kid_at, place_from, root_of, place_at}
use Rattle.lf_check.specs.Rows.{way_on, ways_of, StandsAt, IsSetAt, ExcludesAt, edges_in, edges_of}
use Rattle.lf_check.proofs.WayLemmas.{all_ways, has_node, way_once, kid_there, last_kid, kid_leads, through}

-- an element of a list that is made of another
record Made {X Y : Type 0} (f : X → Y) (xs : List X) (at : ℕ) (y : Y) : Type 0 where
  item : X
  is : slice_get xs at ≡ Some item
  gives : f item ≡ y

made : {X Y : Type 0} (f : X → Y) (xs : List X) (at : ℕ) (y : Y) → slice_get (map f xs) at ≡ Some y → Made f xs at y
made {X} {Y} f xs at y is = by (slice_get xs at) refl (sym (slice_get-map f xs at) ∙ is)
  where
    by : (o : Option X) → slice_get xs at ≡ o → option_map f o ≡ Some y → Made f xs at y
    by None there mapped = absurd (none-some y mapped)
    by (Some x) there mapped = record { item = x; is = there; gives = same_Some (f x) y mapped }

-- Each row but the first hangs in an earlier one
pub record Hangs (tree : Tree) (at : ℕ) (r : Seen) : Type 0 where
  pub above : ℕ
  pub branch : Seen
  pub way : List ℕ
  pub named : r.parent ≡ Some above
  pub before : above < at
  pub there : slice_get (rows_of tree) above ≡ Some branch
  pub node : slice_get (kids_of branch.node) r.kid ≡ Some r.node
  pub above_way : slice_get (ways_of tree) above ≡ Some way
  pub way_is : slice_get (ways_of tree) at ≡ Some (way ++ r.kid ∷ [])

abbrev Linked : Type 0
Linked = Seen × List ℕ

abbrev row_of : Linked → Seen
row_of e = e.0

abbrev value_of : Linked → List ℕ × Node
value_of e = (e.1, e.0.node)

module _ (tree : Tree) (es : List Linked) (are : AreLinked way_on tree [] es) where
  row_there : (at : ℕ) (e : Linked) → slice_get es at ≡ Some e → slice_get (rows_of tree) at ≡ Some e.0
  row_there at e is = ap (λ rs. slice_get rs at) (sym are.rows_are) ∙ slice_get-map row_of es at ∙ ap (option_map row_of) is

  value_there : (at : ℕ) (e : Linked) → slice_get es at ≡ Some e → slice_get (all_ways tree) at ≡ Some (value_of e)
  value_there at e is = ap (λ vs. slice_get vs at) (sym are.values_are) ∙ slice_get-map value_of es at ∙ ap (option_map value_of) is

  way_there : (at : ℕ) (e : Linked) → slice_get es at ≡ Some e → slice_get (ways_of tree) at ≡ Some e.1
  way_there at e is =
      slice_get-map (λ (x : List ℕ × Node). x.0) (all_ways tree) at ∙ ap (option_map (λ (x : List ℕ × Node). x.0)) (value_there at e is)

  entry : (at : ℕ) (r : Seen) → slice_get (rows_of tree) at ≡ Some r → Made row_of es at r
  entry at r is = made row_of es at r (ap (λ rs. slice_get rs at) are.rows_are ∙ is)

  hangs_linked : (at : ℕ) (r : Seen) → 0 < at → slice_get (rows_of tree) at ≡ Some r → Hangs tree at r
  hangs_linked at r later is =
      let e = entry at r is in
      let h = are.hang at e.item later e.is in
      let same : e.item.0 ≡ r = e.gives in
      record {
        above = h.place;
        branch = h.branch.0;
        way = h.branch.1;
        named = ap (λ (x : Seen). x.parent) (sym same) ∙ h.named;
        before = h.before;
        there = row_there h.place h.branch h.there;
        node = ap (λ (x : Seen). slice_get (kids_of h.branch.0.node) x.kid) (sym same) ∙ h.is_kid.node ∙ ap (λ (x : Seen). Some x.node) same;
        above_way = way_there h.place h.branch h.there;
        way_is = way_there at e.item e.is ∙ ap Some (h.is_kid.value ∙ ap (λ (x : Seen). h.branch.1 ++ x.kid ∷ []) same);
      }

  node_linked : (at : ℕ) (r : Seen) (way : List ℕ) (p : Place) → slice_get (rows_of tree) at ≡ Some r → StandsAt tree at way p → r.node ≡ p.node
  node_linked at r way p is stands =
      let e = entry at r is in
      let h = has_node tree way p stands.leads in
      let here : h.at ≡ at = way_once tree h.at at way h.way_is stands.way_is in
      let value : value_of e.item ≡ (way, p.node) =
      same_Some (value_of e.item) (way, p.node) (sym (value_there at e.item e.is) ∙ ap (slice_get (all_ways tree)) (sym here) ∙ h.is) in
      ap (λ (x : Seen). x.node) (sym e.gives) ∙ ap (λ (x : List ℕ × Node). x.1) value

  length_linked : length (ways_of tree) ≡ length (rows_of tree)
  length_linked =
      length-map (all_ways tree) (λ (x : List ℕ × Node). x.0) ∙ ap length (sym are.values_are) ∙ length-map es value_of
      ∙ sym (length-map es row_of) ∙ ap length are.rows_are

pub hangs : (tree : Tree) (at : ℕ) (r : Seen) → 0 < at → slice_get (rows_of tree) at ≡ Some r → Hangs tree at r
hangs tree = let l = linked way_on tree [] in hangs_linked tree l.0 l.1

-- a row has the node that stands at its place,
pub node_at : (tree : Tree) (at : ℕ) (r : Seen) (way : List ℕ) (p : Place) → slice_get (rows_of tree) at ≡ Some r → StandsAt tree at way p
    → r.node ≡ p.node
node_at tree = let l = linked way_on tree [] in node_linked tree l.0 l.1

-- there is a way for each row,
pub as_many : (tree : Tree) → length (ways_of tree) ≡ length (rows_of tree)
as_many tree = let l = linked way_on tree [] in length_linked tree l.0 l.1

-- and the first is the root's
pub first_place : (tree : Tree) (way : List ℕ) (p : Place) → StandsAt tree 0 way p → root_of tree ≡ p
first_place tree way p stands =
    let none : [] ≡ way = same_Some {A = List ℕ} [] way stands.way_is in
    same_Some (root_of tree) p (subst (λ v. place_at tree v ≡ Some p) (sym none) stands.leads)

pub first_stands : (tree : Tree) → StandsAt tree 0 [] (root_of tree)
first_stands tree = record { way_is = refl; leads = refl }

-- a row that names no branch is the first, and the first names none
pub first_row : (tree : Tree) (at : ℕ) (r : Seen) → slice_get (rows_of tree) at ≡ Some r → r.parent ≡ None → at ≡ 0
first_row tree zero r is none = refl
first_row tree (suc at) r is none = let h = hangs tree (suc at) r (omega arith) is in absurd (none-some h.above (sym none ∙ h.named))

pub later_row : (tree : Tree) (at : ℕ) (r : Seen) (above : ℕ) → slice_get (rows_of tree) at ≡ Some r → r.parent ≡ Some above → 0 < at
later_row tree zero r above is named =
    absurd (none-some above (ap (λ (x : Seen). x.parent) (same_Some {A = Seen} (record { parent = None; kid = 0; depth = 0; node = tree.root }) r is) ∙ named))
later_row tree (suc at) r above is named = omega arith

-- the same where it is known which branch it names
pub record HangsIn (tree : Tree) (at above : ℕ) (r branch : Seen) : Type 0 where
  pub way : List ℕ
  pub before : above < at
  pub node : slice_get (kids_of branch.node) r.kid ≡ Some r.node
  pub above_way : slice_get (ways_of tree) above ≡ Some way
  pub way_is : slice_get (ways_of tree) at ≡ Some (way ++ r.kid ∷ [])

pub hangs_in : (tree : Tree) (at above : ℕ) (r branch : Seen) → slice_get (rows_of tree) at ≡ Some r → r.parent ≡ Some above
    → slice_get (rows_of tree) above ≡ Some branch → HangsIn tree at above r branch
hangs_in tree at above r branch is named there =
    let h = hangs tree at r (later_row tree at r above is named) is in
    let same : h.above ≡ above = same_Some h.above above (sym h.named ∙ named) in
    let one : h.branch ≡ branch = same_Some h.branch branch (sym h.there ∙ ap (slice_get (rows_of tree)) same ∙ there) in
    record {
      way = h.way;
      before = subst (λ k. k < at) same h.before;
      node = ap (λ (x : Seen). slice_get (kids_of x.node) r.kid) (sym one) ∙ h.node;
      above_way = ap (slice_get (ways_of tree)) (sym same) ∙ h.above_way;
      way_is = h.way_is;
    }

pub above_before : (tree : Tree) (at above : ℕ) (r : Seen) → slice_get (rows_of tree) at ≡ Some r → r.parent ≡ Some above → above < at
above_before tree at above r is named =
    let h = hangs tree at r (later_row tree at r above is named) is in
    subst (λ k. k < at) (same_Some h.above above (sym h.named ∙ named)) h.before

-- What stands at a row stands behind an edge of what stands at its branch's row
pub record Beneath (tree : Tree) (above : ℕ) (r branch : Seen) (p : Place) : Type 0 where
  pub way : List ℕ
  pub place : Place
  pub edge : Parts
  pub stands : StandsAt tree above way place
  pub edge_is : slice_get (edges_of branch.node) r.kid ≡ Some edge
  pub faults_is : p.faults ≡ inserted edge place.faults
  pub excluded_is : p.excluded ≡ place.excluded ++ take r.kid (edges_of branch.node)

pub beneath : (tree : Tree) (at above : ℕ) (r branch : Seen) (way : List ℕ) (p : Place) → slice_get (rows_of tree) at ≡ Some r
    → r.parent ≡ Some above → slice_get (rows_of tree) above ≡ Some branch → StandsAt tree at way p → Beneath tree above r branch p
beneath tree at above r branch way p is named there stands =
    let h = hangs_in tree at above r branch is named there in
    let whole : way ≡ h.way ++ r.kid ∷ [] = same_Some way (h.way ++ r.kid ∷ []) (sym stands.way_is ∙ h.way_is) in
    let l = last_kid h.way (root_of tree) r.kid p (subst (λ v. place_at tree v ≡ Some p) whole stands.leads) in
    let k = kid_there l.branch p r.kid l.is in
    let above_stands : StandsAt tree above h.way l.branch = record { way_is = h.above_way; leads = l.leads } in
    let same : branch.node ≡ l.branch.node = node_at tree above branch h.way l.branch there above_stands in
    let edges : edges_of branch.node ≡ k.edges = ap edges_of same ∙ ap edges_in k.opened in
    record {
      way = h.way;
      place = l.branch;
      edge = k.edge;
      stands = above_stands;
      edge_is = ap (λ es. slice_get es r.kid) edges ∙ k.edge_is;
      faults_is = k.faults_is;
      excluded_is = k.excluded_is ∙ ap (λ es. l.branch.excluded ++ take r.kid es) (sym edges);
    }

-- An edge of a branch leads to a kid's place
by_level : (y : Node-F Node) (faults excluded : List Parts) (i : ℕ) (edge : Parts) (node : Node) → slice_get (edges_in y) i ≡ Some edge
    → slice_get (kids_in y) i ≡ Some node
    → kid_in y faults excluded i ≡ Some (record { node = node; faults = inserted edge faults; excluded = excluded ++ take i (edges_in y) })
by_level Node-F.Misses faults excluded i edge node edge_is node_is = absurd (none-some edge edge_is)
by_level Node-F.Reaches faults excluded i edge node edge_is node_is = absurd (none-some edge edge_is)
by_level (Node-F.Branch reach edges kids) faults excluded i edge node edge_is node_is =
    ap (λ (o : Option Parts). option_and_then (λ (e : Parts). option_map
    (λ (k : Node). let made : Place = record { node = k; faults = inserted e faults; excluded = excluded ++ take i edges } in made)
    (slice_get kids i)) o) edge_is
    ∙ ap (λ (o : Option Node). option_map (λ (k : Node). let made : Place = record {
      node = k;
      faults = inserted edge faults;
      excluded = excluded ++ take i edges;
    } in made) o) node_is

-- The set of a row, by that of its branch's row
module _ (tree : Tree) (at above : ℕ) (r branch : Seen) (is : slice_get (rows_of tree) at ≡ Some r) (named : r.parent ≡ Some above)
    (there : slice_get (rows_of tree) above ≡ Some branch) where
  pub set_none : IsSetAt tree above None → IsSetAt tree at None
  set_none barred way p stands =
      let b = beneath tree at above r branch way p is named there stands in
      let bar = barred b.way b.place b.stands in
      let here : above < at = above_before tree at above r is named in
      let more : bar.above < above = bar.before in
      record {
        above = bar.above;
        way = bar.way;
        place = bar.place;
        before = omega arith;
        stands = bar.stands;
        wrong = bar.wrong;
      }

  pub set_no_edge : slice_get (edges_of branch.node) r.kid ≡ None → IsSetAt tree at None
  set_no_edge none way p stands =
      let b = beneath tree at above r branch way p is named there stands in
      absurd (none-some b.edge (sym none ∙ b.edge_is))

  same_node : (set : List Parts) (has : IsSetAt tree above (Some set)) → branch.node ≡ has.1.node
  same_node set has = node_at tree above branch has.0 has.1 there has.2

  pub set_crowded : (set : List Parts) → IsSetAt tree above (Some set) → 3840 < length (edges_of branch.node) → IsSetAt tree at None
  set_crowded set has crowded way p stands = record {
    above = above;
    way = has.0;
    place = has.1;
    before = above_before tree at above r is named;
    stands = has.2;
    wrong = inr (subst (λ n. 3840 < length (edges_of n)) (same_node set has) crowded);
  }

  module _ (edge : Parts) (edge_is : slice_get (edges_of branch.node) r.kid ≡ Some edge) (set : List Parts)
      (has : IsSetAt tree above (Some set)) where
    own_edge : slice_get (edges_of has.1.node) r.kid ≡ Some edge
    own_edge = ap (λ n. slice_get (edges_of n) r.kid) (sym (same_node set has)) ∙ edge_is

    pub set_full : (((Contains set edge → ⊥) × (length set < 6)) → ⊥) → IsSetAt tree at None
    set_full full way p stands = record {
      above = above;
      way = has.0;
      place = has.1;
      before = above_before tree at above r is named;
      stands = has.2;
      wrong = inl (record {
        edge = edge;
        among = (
          r.kid,
          slice_get_within (edges_of has.1.node) r.kid edge own_edge,
          get_or_from_slice_get (edges_of has.1.node) r.kid edge edge own_edge,
        );
        full = λ room. full (subst (λ fs. (Contains fs edge → ⊥) × (length fs < 6)) has.3 room);
      });
    }

    pub set_more : IsSetAt tree at (Some (inserted edge set))
    set_more =
        let h = hangs_in tree at above r branch is named there in
        let own_way : has.0 ≡ h.way = same_Some has.0 h.way (sym has.2.way_is ∙ h.above_way) in
        let node_is : slice_get (kids_of has.1.node) r.kid ≡ Some r.node = ap (λ n. slice_get (kids_of n) r.kid) (sym (same_node set has)) ∙ h.node in
        let kid : Place = record {
          node = r.node;
          faults = inserted edge has.1.faults;
          excluded = has.1.excluded ++ take r.kid (edges_of has.1.node);
        } in
        let kid_is : kid_at has.1 r.kid ≡ Some kid = by_level (out-Node has.1.node) has.1.faults has.1.excluded r.kid edge r.node own_edge node_is in (
          h.way ++ r.kid ∷ [],
          kid,
          record {
            way_is = h.way_is;
            leads = kid_leads h.way (root_of tree) has.1 r.kid kid (subst (λ v. place_at tree v ≡ Some has.1) own_way has.2.leads) kid_is;
          },
          ap (inserted edge) has.3,
        )

-- A set has as many faults as there are branches above its place
pub faults_from : (way : List ℕ) (p q : Place) → place_from p way ≡ Some q → length q.faults ≡ length p.faults + length way
faults_from [] p q leads = let same : length p.faults ≡ length q.faults = ap (λ (x : Place). length x.faults) (same_Some p q leads) in omega (arith, same)
faults_from (i ∷ way) p q leads =
    let t = through p i way q leads in
    let k = kid_there p t.kid i t.is in
    let long : length (i ∷ way) ≡ suc (length way) = refl in
    omega (arith, faults_from way t.kid q t.leads, ap length k.faults_is, length-inserted k.edge p.faults, long)

pub faults_at : (tree : Tree) (at : ℕ) (way : List ℕ) (p : Place) → StandsAt tree at way p → length p.faults ≡ length way
faults_at tree at way p stands = let all = faults_from way (root_of tree) p stands.leads in omega (arith, all)

-- a place of the list has one way and one place of the tree
pub place_one : (tree : Tree) (at : ℕ) (way other : List ℕ) (p q : Place) → StandsAt tree at way p → StandsAt tree at other q → (way ≡ other) × (p ≡ q)
place_one tree at way other p q one two =
    let same : way ≡ other = same_Some way other (sym one.way_is ∙ two.way_is) in
    (same, same_Some p q (sym one.leads ∙ ap (place_at tree) same ∙ two.leads))

-- A row as it is read
pub read_row : (tree : Tree) (rows : List Row) (at : ℕ) (row : Row) → map seen rows ≡ rows_of tree → slice_get rows at ≡ Some row
    → slice_get (rows_of tree) at ≡ Some (seen row)
read_row tree rows at row whole is = ap (λ rs. slice_get rs at) (sym whole) ∙ slice_get-map seen rows at ∙ ap (option_map seen) is

pub read_back : (tree : Tree) (rows : List Row) (at : ℕ) (row : Row) (r : Seen) → map seen rows ≡ rows_of tree → slice_get rows at ≡ Some row
    → slice_get (rows_of tree) at ≡ Some r → seen row ≡ r
read_back tree rows at row r whole here is = same_Some (seen row) r (sym (read_row tree rows at row whole here) ∙ is)

pub parent_before : (tree : Tree) (at : ℕ) (r : Seen) → slice_get (rows_of tree) at ≡ Some r → IfSome r.parent (λ above. above < at)
parent_before tree at r is = by r.parent refl
  where
    by : (o : Option ℕ) → r.parent ≡ o → IfSome o (λ above. above < at)
    by None named = tt
    by (Some above) named = above_before tree at above r is named

-- The set of the next row, by what its branch's row and its edge give
pub set_first : (tree : Tree) (at : ℕ) (r : Seen) (parent : Option ℕ) (set : List Parts) → slice_get (rows_of tree) at ≡ Some r
    → parent ≡ r.parent → parent ≡ None → set ≡ [] → IsSetAt tree at (Some set)
set_first tree at r parent set is own none empty =
    let root : at ≡ 0 = first_row tree at r is (sym own ∙ none) in
    let here : IsSetAt tree 0 (Some []) = ([], root_of tree, first_stands tree, refl) in
    subst (λ k. IsSetAt tree k (Some set)) (sym root) (subst (λ s. IsSetAt tree 0 (Some s)) (sym empty) here)

item_there : {X : Type 0} (xs : List X) (i : ℕ) → i < length xs → (x : X) × (slice_get xs i ≡ Some x)
item_there [] i less = let never : ⊥ = omega arith in absurd never
item_there (x ∷ xs) zero less = (x, refl)
item_there (x ∷ xs) (suc i) less = item_there xs i (omega arith)

pub none_is : {X : Type 0} (o : Option X) → ((x : X) → o ≡ Some x → ⊥) → o ≡ None
none_is None h = refl
none_is (Some x) h = absurd (h x refl)

module _ (tree : Tree) (rows : List Row) (at : ℕ) (parent : Option ℕ) (whole : map seen rows ≡ rows_of tree) (within : at < length rows)
    (own : (r : Seen) → slice_get (rows_of tree) at ≡ Some r → parent ≡ r.parent) where
  own_row : (r : Seen) × (slice_get (rows_of tree) at ≡ Some r)
  own_row = let x = item_there rows at within in (seen x.0, read_row tree rows at x.0 whole x.1)

  -- the root's
  pub next_first : parent ≡ None → (set : List Parts) → set ≡ [] → IsSetAt tree at (Some set)
  next_first none set empty = set_first tree at own_row.0 parent set own_row.1 (own own_row.0 own_row.1) none empty

  pub root_way : parent ≡ None → (way : List ℕ) → slice_get (ways_of tree) at ≡ Some way → [] ≡ way
  root_way none way is =
      let root : at ≡ 0 = first_row tree at own_row.0 own_row.1 (sym (own own_row.0 own_row.1) ∙ none) in
      same_Some {A = List ℕ} [] way (ap (slice_get (ways_of tree)) (sym root) ∙ is)

  pub root_place : parent ≡ None → (way : List ℕ) (p : Place) → StandsAt tree at way p → root_of tree ≡ p
  root_place none way p stands =
      let root : at ≡ 0 = first_row tree at own_row.0 own_row.1 (sym (own own_row.0 own_row.1) ∙ none) in
      first_place tree way p (subst (λ k. StandsAt tree k way p) root stands)

  module _ (above : ℕ) (named : parent ≡ Some above) where
    named_row : (r : Seen) → slice_get (rows_of tree) at ≡ Some r → r.parent ≡ Some above
    named_row r is = sym (own r is) ∙ named

    above_row : (branch : Seen) × (slice_get (rows_of tree) above ≡ Some branch)
    above_row =
        let less : above < at = above_before tree at above own_row.0 own_row.1 (named_row own_row.0 own_row.1) in
        let x = item_there rows above (omega arith) in
        (seen x.0, read_row tree rows above x.0 whole x.1)

    pub next_none : IsSetAt tree above None → (set : Option (List Parts)) → set ≡ None → IsSetAt tree at set
    next_none barred set is =
        subst (IsSetAt tree at) (sym is)
        (set_none tree at above own_row.0 above_row.0 own_row.1 (named_row own_row.0 own_row.1) above_row.1 barred)

    module _ (row branch : Row) (here : slice_get rows at ≡ Some row) (there : slice_get rows above ≡ Some branch) where
      here_is : slice_get (rows_of tree) at ≡ Some (seen row)
      here_is = read_row tree rows at row whole here

      there_is : slice_get (rows_of tree) above ≡ Some (seen branch)
      there_is = read_row tree rows above branch whole there

      pub next_no_edge : None ≡ slice_get (edges_of branch.node.now) row.kid → (set : Option (List Parts)) → set ≡ None → IsSetAt tree at set
      next_no_edge none set is =
          subst (IsSetAt tree at) (sym is)
          (set_no_edge tree at above (seen row) (seen branch) here_is (named_row (seen row) here_is) there_is (sym none))

      pub next_crowded : (set : List Parts) → IsSetAt tree above (Some set) → 3840 < length (edges_of branch.node.now)
          → (next : Option (List Parts)) → next ≡ None → IsSetAt tree at next
      next_crowded set has crowded next none =
          subst (IsSetAt tree at) (sym none)
          (set_crowded tree at above (seen row) (seen branch) here_is (named_row (seen row) here_is) there_is set has crowded)

      pub next_set : (edge : Parts) (set : List Parts) (next : Option (List Parts)) → Some edge ≡ slice_get (edges_of branch.node.now) row.kid
          → IsSetAt tree above (Some set) → IsSome next ↔ ((Contains set edge → ⊥) × (length set < 6)) → IfSome next (λ s. s ≡ inserted edge set)
          → IsSetAt tree at next
      next_set edge set None edge_is has some value =
          set_full tree at above (seen row) (seen branch) here_is (named_row (seen row) here_is) there_is edge (sym edge_is) set has
          (λ room. false≢true (some.1 room))
      next_set edge set (Some s) edge_is has some value =
          subst (λ t. IsSetAt tree at (Some t)) (sym value)
          (set_more tree at above (seen row) (seen branch) here_is (named_row (seen row) here_is) there_is edge (sym edge_is) set has)

      -- what is excluded, and the way
      pub more_excluded : (old mid new : List Parts) → ((v : List ℕ) (q : Place) → StandsAt tree above v q → mid ≡ old ++ q.excluded)
          → new ≡ mid ++ take row.kid (edges_of branch.node.now) → (way : List ℕ) (p : Place) → StandsAt tree at way p → new ≡ old ++ p.excluded
      more_excluded old mid new before grown way p stands =
          let b = beneath tree at above (seen row) (seen branch) way p here_is (named_row (seen row) here_is) there_is stands in
          grown ∙ ap (λ xs. xs ++ take row.kid (edges_of branch.node.now)) (before b.way b.place b.stands)
          ∙ append_assoc old b.place.excluded (take row.kid (edges_of branch.node.now)) ∙ ap (λ xs. old ++ xs) (sym b.excluded_is)

    pub kid_excluded : (row : Row) → slice_get rows at ≡ Some row → (faults : List Parts) → ExcludesAt tree above row.kid faults
        → (way : List ℕ) (p : Place) → StandsAt tree at way p → faults ≡ p.excluded
    kid_excluded row here faults all way p stands =
        let here_is = read_row tree rows at row whole here in
        let b = beneath tree at above (seen row) above_row.0 way p here_is (named_row (seen row) here_is) above_row.1 stands in
        let same : above_row.0.node ≡ b.place.node = node_at tree above above_row.0 b.way b.place above_row.1 b.stands in
        all b.way b.place b.stands ∙ ap (λ n. b.place.excluded ++ take row.kid (edges_of n)) (sym same) ∙ sym b.excluded_is

    pub more_way : (row : Row) → slice_get rows at ≡ Some row → (old mid new : List ℕ)
        → ((v : List ℕ) → slice_get (ways_of tree) above ≡ Some v → mid ≡ old ++ v) → new ≡ mid ++ row.kid ∷ []
        → (way : List ℕ) → slice_get (ways_of tree) at ≡ Some way → new ≡ old ++ way
    more_way row here old mid new before grown way is =
        let here_is = read_row tree rows at row whole here in
        let h = hangs_in tree at above (seen row) above_row.0 here_is (named_row (seen row) here_is) above_row.1 in
        grown ∙ ap (λ xs. xs ++ row.kid ∷ []) (before h.way h.above_way) ∙ append_assoc old h.way (row.kid ∷ [])
        ∙ ap (λ xs. old ++ xs) (same_Some (h.way ++ row.kid ∷ []) way (sym h.way_is ∙ is))
