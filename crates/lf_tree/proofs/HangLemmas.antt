-- The rows of a tree: their branches, their nodes, and how many they are.
use Rattle.std.proofs.Common.{◌≡◌, ℕ, zero, suc, ◌+◌, List, [], ◌∷◌, ◌++◌, length, length-append, refl, sym, ap, ◌∙◌, map, sum, arith}
use Rattle.std.specs.Prelude.{Some}
use Rattle.std.specs.List.{AllByRecursion, flat_map, slice_get}
use Rattle.std.specs.Option.{option_map}
use Rattle.std.proofs.lemmas.List.{map-append}
use Rattle.std.proofs.lemmas.List.Concat.{flat_map-cons}
use Rattle.std.proofs.lemmas.List.Sums.{sum_by-cons}
use Rattle.std.proofs.lemmas.Option.{slice_get-map}
use Rattle.lf_faults.specs.declared.fault.Parts.{Parts}
use Rattle.lf_tree.specs.declared.tree.Tree.{Tree}
use Rattle.lf_tree.specs.declared.tree.Node.{Node, para-Node, para-roll-Node}
use Rattle.lf_tree.specs.declared.tree.Node.TheVariants.{rolls-Misses, rolls-Reaches, rolls-Branch}
use Rattle.lf_tree.specs.declared.tree.Node.TheVariants as kind
use Rattle.lf_tree.specs.declared.tree.Node.TheOpen.{Node-F}
use Rattle.lf_tree.specs.Counts.{nodes_in, nodes_of}
use Rattle.lf_tree.specs.Heirs.{AreLinked, HasBranch, kids_of}
use Rattle.lf_tree.specs.Preorder.{AreHung}
use Rattle.lf_tree.specs.Rows.{Seen, beneath, preorder, preorder_step, rows_of}
use Rattle.lf_tree.proofs.Inductions.{by_induction}
use Rattle.lf_tree.proofs.KindLemmas.{nodes_in-Branch, nodes_in-Misses, nodes_in-Reaches}
use Rattle.lf_tree.proofs.LinkLemmas.{linked, linked_rows}
use Rattle.lf_tree.proofs.RowLemmas.{beneath-Branch, beneath-Misses, beneath-Reaches, kid_row, kids_rows}

-- an element of a list that was mapped
from_map : {X Y : Type 0} (f : X → Y) (xs : List X) (k : ℕ) (y : Y) → slice_get (map f xs) k ≡ Some y → (x : X) × (slice_get xs k ≡ Some x) × (f x ≡ y)
from_map f [] k y is = absurd (cc)
from_map f (x ∷ xs) zero y is = (x, refl, cc)
from_map f (x ∷ xs) (suc k) y is = from_map f xs k y is

to_map : {X Y : Type 0} (f : X → Y) (xs : List X) (k : ℕ) (x : X) → slice_get xs k ≡ Some x → slice_get (map f xs) k ≡ Some (f x)
to_map f xs k x is = slice_get-map f xs k ∙ ap (option_map f) is

abbrev nothing : ℕ → Node → ℕ → ℕ
nothing value n kid = 0

pub hung : (tree : Tree) → AreHung (rows_of tree)
hung tree k r later is =
    let rows : List (Seen × ℕ) = linked_rows nothing tree 0 in
    let are : AreLinked nothing tree 0 rows = linked nothing tree 0 in
    let row_of : Seen × ℕ → Seen = λ e. e.0 in
    let found : (e : Seen × ℕ) × (slice_get rows k ≡ Some e) × (row_of e ≡ r) =
    from_map row_of rows k r (ap (λ rs. slice_get rs k) are.rows_are ∙ is) in
    let has : HasBranch nothing rows k found.0 = are.hang k found.0 later found.1 in
    record {
      place = has.place;
      branch = has.branch.0;
      named = ap (λ (s : Seen). s.parent) (sym found.2) ∙ has.named;
      before = has.before;
      there = ap (λ rs. slice_get rs has.place) (sym are.rows_are) ∙ to_map row_of rows has.place has.branch has.there;
      deeper = ap (λ (s : Seen). s.depth) (sym found.2) ∙ has.is_kid.deeper;
      node = ap (λ (s : Seen). slice_get (kids_of has.branch.0.node) s.kid) (sym found.2) ∙ has.is_kid.node ∙ ap (λ (s : Seen). Some s.node) found.2;
    }

-- the nodes beneath a node
abbrev under : Node → List Node
under = para-Node (List Node) preorder_step

under-Misses : under kind.Misses ≡ []
under-Misses = ap under (sym rolls-Misses) ∙ para-roll-Node (List Node) preorder_step Node-F.Misses

under-Reaches : under kind.Reaches ≡ []
under-Reaches = ap under (sym rolls-Reaches) ∙ para-roll-Node (List Node) preorder_step Node-F.Reaches

abbrev kids_under : List Node → List Node
kids_under kids = flat_map (λ (one : Node × List Node). one.0 ∷ one.1) (map (λ n. (n, under n)) kids)

under-Branch : (reach : List ℕ) (edges : List Parts) (kids : List Node) → under (kind.Branch reach edges kids) ≡ kids_under kids
under-Branch reach edges kids =
    ap under (sym (rolls-Branch reach edges kids)) ∙ para-roll-Node (List Node) preorder_step (Node-F.Branch reach edges kids)

abbrev node_of : Seen → Node
node_of r = r.node

-- the rows beneath a node are those of the nodes beneath it, in order
abbrev AreNodes : Node → Type 0
AreNodes n = (place depth next : ℕ) → map node_of (beneath n place depth next) ≡ under n

nodes-kids : (place depth next kid : ℕ) (kids : List Node) → AllByRecursion AreNodes kids
    → map node_of (kids_rows place depth next kid kids) ≡ kids_under kids
nodes-kids place depth next kid [] all = refl
nodes-kids place depth next kid (k ∷ ks) all =
    let rows : List Seen = kid_row place depth kid k ∷ beneath k next (depth + 1) (next + 1) in
    let rest : List Seen = kids_rows place depth (next + length rows) (kid + 1) ks in
    map-append node_of rows rest
    ∙ ap (λ ns. (k ∷ ns) ++ map node_of rest) (all.0 next (depth + 1) (next + 1))
    ∙ ap (λ ns. (k ∷ under k) ++ ns) (nodes-kids place depth (next + length rows) (kid + 1) ks all.1)
    ∙ sym (flat_map-cons (λ (one : Node × List Node). one.0 ∷ one.1) (k, under k) (map (λ n. (n, under n)) ks))

are_nodes : (n : Node) → AreNodes n
are_nodes = by_induction AreNodes (record {
  misses = λ place depth next. ap (λ b. map node_of (b place depth next)) beneath-Misses ∙ sym under-Misses;
  reaches = λ place depth next. ap (λ b. map node_of (b place depth next)) beneath-Reaches ∙ sym under-Reaches;
  branch = λ reach edges kids all place depth next.
      ap (map node_of) (beneath-Branch reach edges kids place depth next) ∙ nodes-kids place depth next 0 kids all
      ∙ sym (under-Branch reach edges kids);
})

pub nodes-rows_of : (tree : Tree) → map (λ (r : Seen). r.node) (rows_of tree) ≡ preorder tree.root
nodes-rows_of tree = ap (λ ns. tree.root ∷ ns) (are_nodes tree.root 0 0 1)

-- as many as the tree has nodes
abbrev IsCounted : Node → Type 0
IsCounted n = (place depth next : ℕ) → length (beneath n place depth next) + 1 ≡ nodes_in n

counted-kids : (place depth next kid : ℕ) (kids : List Node) → AllByRecursion IsCounted kids
    → length (kids_rows place depth next kid kids) ≡ sum (map nodes_in kids)
counted-kids place depth next kid [] all = refl
counted-kids place depth next kid (k ∷ ks) all =
    let below : List Seen = beneath k next (depth + 1) (next + 1) in
    let rows : List Seen = kid_row place depth kid k ∷ below in
    let rest : List Seen = kids_rows place depth (next + length rows) (kid + 1) ks in
    let one : length rows ≡ suc (length below) = refl in
    let own : length below + 1 ≡ nodes_in k = all.0 next (depth + 1) (next + 1) in
    let more : length rest ≡ sum (map nodes_in ks) = counted-kids place depth (next + length rows) (kid + 1) ks all.1 in
    let whole : sum (map nodes_in (k ∷ ks)) ≡ nodes_in k + sum (map nodes_in ks) = sum_by-cons (λ (x : ℕ). x) (nodes_in k) (map nodes_in ks) in
    let both : length (rows ++ rest) ≡ length rows + length rest = length-append rows rest in
    omega (arith, one, own, more, whole, both)

pub is_counted : (n : Node) → IsCounted n
is_counted = by_induction IsCounted (record {
  misses = λ place depth next. ap (λ b. length (b place depth next) + 1) beneath-Misses ∙ sym nodes_in-Misses;
  reaches = λ place depth next. ap (λ b. length (b place depth next) + 1) beneath-Reaches ∙ sym nodes_in-Reaches;
  branch = λ reach edges kids all place depth next.
      let rows : length (beneath (kind.Branch reach edges kids) place depth next) ≡ length (kids_rows place depth next 0 kids) =
      ap length (beneath-Branch reach edges kids place depth next) in
      let beneath_it : length (kids_rows place depth next 0 kids) ≡ sum (map nodes_in kids) = counted-kids place depth next 0 kids all in
      omega (arith, rows, beneath_it, nodes_in-Branch reach edges kids);
})

pub length-rows_of : (tree : Tree) → length (rows_of tree) ≡ nodes_of tree
length-rows_of tree =
    let below : length (beneath tree.root 0 0 1) + 1 ≡ nodes_in tree.root = is_counted tree.root 0 0 1 in
    let first : length (rows_of tree) ≡ suc (length (beneath tree.root 0 0 1)) = refl in
    omega (arith, below, first)
