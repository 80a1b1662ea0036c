-- The sets of which a right tree speaks are allowed, and as large as their places are deep.
use Rattle.std.proofs.Common.{◌≡◌, ℕ, ◌+◌, Bool, true, false, List, [], ◌∷◌, ◌++◌, length, take}
use Rattle.std.proofs.Common.{refl, sym, ap, ◌∙◌, subst, arith}
use Rattle.std.specs.Prelude.{slice_get, unwrap_or, Option, None, Some}
use Rattle.std.specs.Option.{is_some, option_map, option_and_then}
use Rattle.std.proofs.lemmas.Bool.{false≢true}
use Rattle.lf_faults.specs.declared.fault.Parts.{Parts}
use Rattle.lf_faults.specs.declared.spec.Bounds.{Bounds}
use Rattle.lf_faults.specs.Faults.{inserted}
use Rattle.lf_faults.specs.Allowed.{IsAllowed}
use Rattle.lf_faults.proofs.Laws.{length-inserted}
use Rattle.lf_sim.specs.Runs.{World}
use Rattle.lf_outcome.specs.declared.formula.Formula.{Formula}
use Rattle.lf_tree.specs.declared.tree.Node.{Node, out-Node}
use Rattle.lf_tree.specs.declared.tree.Node.TheOpen.{Node-F}
use Rattle.lf_certificate.specs.Places.{Place, kid_in, kid_at, place_from}
use Rattle.lf_certificate.specs.Accepted.{AreRight, IsRightNode}
use Rattle.lf_certificate.proofs.Covering.{item-in}
use Rattle.lf_certificate.proofs.PlacesLemmas.{from-kid}

pub some-one : {X : Type 0} (x y : X) → Some x ≡ Some y → x ≡ y
some-one x y is = ap (λ o. unwrap_or o x) is

none-some : {X : Type 0} (x : X) → None ≡ Some x → ⊥
none-some x is = false≢true (ap is_some is)

abbrev pub is_branch : Node-F Node → Bool
is_branch Node-F.Misses = false
is_branch Node-F.Reaches = false
is_branch (Node-F.Branch reach edges kids) = true

abbrev pub edges_of : Node-F Node → List Parts
edges_of Node-F.Misses = []
edges_of Node-F.Reaches = []
edges_of (Node-F.Branch reach edges kids) = edges

-- a kid that is there, with its edge
pub record KidOf (y : Node-F Node) (faults excluded : List Parts) (i : ℕ) (kid : Place) : Type 0 where
  pub reach : List ℕ
  pub edges : List Parts
  pub kids : List Node
  pub edge : Parts
  pub opened : y ≡ Node-F.Branch reach edges kids
  pub edge_is : slice_get edges i ≡ Some edge
  pub node_is : slice_get kids i ≡ Some kid.node
  pub faults_is : kid.faults ≡ inserted edge faults
  pub excluded_is : kid.excluded ≡ excluded ++ take i edges

both_there : (reach : List ℕ) (edges : List Parts) (kids : List Node) (faults excluded : List Parts) (i : ℕ) (kid : Place)
    (e : Option Parts) (k : Option Node) → slice_get edges i ≡ e → slice_get kids i ≡ k
    → option_and_then (λ edge. option_map (λ node. record { node = node; faults = inserted edge faults; excluded = excluded ++ take i edges }) k) e ≡ Some kid
    → KidOf (Node-F.Branch reach edges kids) faults excluded i kid
both_there reach edges kids faults excluded i kid None k e_is k_is is = absurd (none-some kid is)
both_there reach edges kids faults excluded i kid (Some edge) None e_is k_is is = absurd (none-some kid is)
both_there reach edges kids faults excluded i kid (Some edge) (Some node) e_is k_is is =
    let made : Place = record { node = node; faults = inserted edge faults; excluded = excluded ++ take i edges } in
    let same : made ≡ kid = some-one made kid is in
    record {
      reach = reach;
      edges = edges;
      kids = kids;
      edge = edge;
      opened = refl;
      edge_is = e_is;
      node_is = k_is ∙ ap (λ p. Some p.node) same;
      faults_is = sym (ap (λ p. p.faults) same);
      excluded_is = sym (ap (λ p. p.excluded) same);
    }

kid_by_node : (y : Node-F Node) (faults excluded : List Parts) (i : ℕ) (kid : Place) → kid_in y faults excluded i ≡ Some kid
    → KidOf y faults excluded i kid
kid_by_node Node-F.Misses faults excluded i kid is = absurd (none-some kid is)
kid_by_node Node-F.Reaches faults excluded i kid is = absurd (none-some kid is)
kid_by_node (Node-F.Branch reach edges kids) faults excluded i kid is =
    both_there reach edges kids faults excluded i kid (slice_get edges i) (slice_get kids i) refl refl is

pub kid_there : (p kid : Place) (i : ℕ) → kid_at p i ≡ Some kid → KidOf (out-Node p.node) p.faults p.excluded i kid
kid_there p kid i is = kid_by_node (out-Node p.node) p.faults p.excluded i kid is

-- what a path leads to through a kid
pub record Through (p : Place) (i : ℕ) (path : List ℕ) (q : Place) : Type 0 where
  pub kid : Place
  pub is : kid_at p i ≡ Some kid
  pub leads : place_from kid path ≡ Some q

through_kid : (p : Place) (i : ℕ) (path : List ℕ) (q : Place) (o : Option Place) → kid_at p i ≡ o
    → option_and_then (λ kid. place_from kid path) o ≡ Some q → Through p i path q
through_kid p i path q None is leads = absurd (none-some q leads)
through_kid p i path q (Some kid) is leads = record { kid = kid; is = is; leads = leads }

pub through : (p : Place) (i : ℕ) (path : List ℕ) (q : Place) → place_from p (i ∷ path) ≡ Some q → Through p i path q
through p i path q leads = through_kid p i path q (kid_at p i) refl leads

module _ {State Note Fact : Type 0} (w : World State Note Fact) (b : Bounds) (formula : Formula Fact) (last : ℕ) where
  -- an edge of a right place may be added
  edge_allowed : (d : ℕ) (p : Place) (y : Node-F Node) (i : ℕ) (kid : Place) → IsRightNode w b formula last d p.faults p.excluded y
      → KidOf y p.faults p.excluded i kid → IsAllowed b kid.faults
  edge_allowed d p Node-F.Misses i kid right k = absurd (false≢true (ap is_branch k.opened))
  edge_allowed d p Node-F.Reaches i kid right k = absurd (false≢true (ap is_branch k.opened))
  edge_allowed d p (Node-F.Branch reach edges kids) i kid right k =
      let edges_are : edges ≡ k.edges = ap (λ y. edges_of y) k.opened in
      let here : slice_get edges i ≡ Some k.edge = ap (λ es. slice_get es i) edges_are ∙ k.edge_is in
      subst (IsAllowed b) (sym k.faults_is) ((right.required.each k.edge).0 (item-in edges i k.edge here)).allowed.1

  pub place_allowed : (path : List ℕ) (d : ℕ) (p q : Place) → AreRight w b formula last d p → length p.faults ≡ d → IsAllowed b p.faults
      → place_from p path ≡ Some q → IsAllowed b q.faults × (length q.faults ≡ d + length path)
  place_allowed [] d p q right size allowed leads =
      let same : p ≡ q = some-one p q leads in
      (subst (λ r. IsAllowed b r.faults) same allowed, omega (arith, ap (λ r. length r.faults) same, size))
  place_allowed (i ∷ path) d p q right size allowed leads =
      let t = through p i path q leads in
      let k = kid_there p t.kid i t.is in
      let kid_allowed = edge_allowed d p (out-Node p.node) i t.kid (right [] p d (omega arith) refl) k in
      let kid_size : length t.kid.faults ≡ d + 1 = omega (arith, ap length k.faults_is, length-inserted k.edge p.faults, size) in
      let found = place_allowed path (d + 1) t.kid q
      (λ rest r at far go. right (i ∷ rest) r at (omega (arith, far)) (from-kid p t.kid i rest t.is ∙ go)) kid_size kid_allowed t.leads in
      (found.0, omega (arith, found.1))
