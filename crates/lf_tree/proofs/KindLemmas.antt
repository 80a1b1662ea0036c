-- What is defined on nodes, by their kinds.
use Rattle.std.proofs.Common.{◌≡◌, ◌≤◌, ℕ, ◌+◌, Bool, false, ◌||◌, List, [], ◌∷◌, refl, ◌++◌, length, take, sym, ap, ◌∙◌, map, min, sum, arith}
use Rattle.std.specs.Prelude.{codes}
use Rattle.std.specs.Fmt.{decimal}
use Rattle.std.specs.List.{list_any}
use Rattle.std.proofs.lemmas.List.{take_all}
use Rattle.lf_faults.specs.declared.fault.Parts.{Parts}
use Rattle.lf_tree.specs.declared.tree.Node.{Node, fold-roll-Node}
use Rattle.lf_tree.specs.declared.tree.Node.TheVariants.{rolls-Misses, rolls-Reaches, rolls-Branch}
use Rattle.lf_tree.specs.declared.tree.Node.TheVariants as kind
use Rattle.lf_tree.specs.declared.tree.Node.TheOpen.{Node-F}
use Rattle.lf_tree.specs.Counts.{nodes_in, nodes_step}
use Rattle.lf_tree.specs.Texts.{faults_text, has_pause, in_brackets, is_pause, node_step, node_text, pauses_step}

pub node_text-Misses : node_text kind.Misses ≡ codes "{\"misses\":true}"
node_text-Misses = ap node_text (sym rolls-Misses) ∙ fold-roll-Node (List ℕ) node_step Node-F.Misses

pub node_text-Reaches : node_text kind.Reaches ≡ codes "{\"misses\":false}"
node_text-Reaches = ap node_text (sym rolls-Reaches) ∙ fold-roll-Node (List ℕ) node_step Node-F.Reaches

pub node_text-Branch : (reach : List ℕ) (edges : List Parts) (kids : List Node) → node_text (kind.Branch reach edges kids) ≡
    codes "{\"edges\":" ++ (faults_text edges ++ (codes ",\"kids\":" ++ (in_brackets (map node_text kids) ++
    (codes ",\"reach\":" ++ (in_brackets (map decimal reach) ++ codes "}")))))
node_text-Branch reach edges kids =
    ap node_text (sym (rolls-Branch reach edges kids)) ∙ fold-roll-Node (List ℕ) node_step (Node-F.Branch reach edges kids)

list_any-same : (f : Node → Bool) (kids : List Node) → list_any (λ b. b) (map f kids) ≡ list_any f kids
list_any-same f [] = refl
list_any-same f (kid ∷ kids) = ap (λ b. f kid || b) (list_any-same f kids)

pub has_pause-Branch : (reach : List ℕ) (edges : List Parts) (kids : List Node)
    → has_pause (kind.Branch reach edges kids) ≡ (list_any is_pause edges || list_any has_pause kids)
has_pause-Branch reach edges kids =
    ap has_pause (sym (rolls-Branch reach edges kids)) ∙ fold-roll-Node Bool pauses_step (Node-F.Branch reach edges kids)
    ∙ ap (λ b. list_any is_pause edges || b) (list_any-same has_pause kids)

pub nodes_in-Misses : nodes_in kind.Misses ≡ 1
nodes_in-Misses = ap nodes_in (sym rolls-Misses) ∙ fold-roll-Node ℕ nodes_step Node-F.Misses

pub nodes_in-Reaches : nodes_in kind.Reaches ≡ 1
nodes_in-Reaches = ap nodes_in (sym rolls-Reaches) ∙ fold-roll-Node ℕ nodes_step Node-F.Reaches

pub nodes_in-Branch : (reach : List ℕ) (edges : List Parts) (kids : List Node)
    → nodes_in (kind.Branch reach edges kids) ≡ 1 + sum (map nodes_in kids)
nodes_in-Branch reach edges kids =
    ap nodes_in (sym (rolls-Branch reach edges kids)) ∙ fold-roll-Node ℕ nodes_step (Node-F.Branch reach edges kids)

-- after the last kid
pub count-all : (n : Node) (reach : List ℕ) (edges : List Parts) (kids xs : List Node) (i count : ℕ) → n ≡ kind.Branch reach edges kids
    → xs ≡ kids → length xs ≤ i → count ≡ min (1 + sum (map nodes_in (take i xs))) 18446744073709551615
    → count ≡ min (nodes_in n) 18446744073709551615
count-all n reach edges kids xs i count is same far h =
    let whole : sum (map nodes_in (take i xs)) ≡ sum (map nodes_in kids) =
    ap (λ (ys : List Node). sum (map nodes_in ys)) (take_all i xs far ∙ same) in
    let by_kind : nodes_in n ≡ 1 + sum (map nodes_in kids) = ap nodes_in is ∙ nodes_in-Branch reach edges kids in
    omega (arith, whole, by_kind, h)

-- where no edge of the branch itself is a pause
pub pause-rest : (n : Node) (reach : List ℕ) (edges es : List Parts) (kids ks : List Node) (here rest : Bool) → n ≡ kind.Branch reach edges kids
    → es ≡ edges → ks ≡ kids → here ≡ list_any is_pause es → here ≡ false → rest ≡ list_any has_pause ks → rest ≡ has_pause n
pause-rest n reach edges es kids ks here rest is edges_read kids_read here_is none rest_is =
    let own : list_any is_pause edges ≡ false = ap (λ fs. list_any is_pause fs) (sym edges_read) ∙ sym here_is ∙ none in
    rest_is ∙ ap (λ (ns : List Node). list_any has_pause ns) kids_read ∙ sym (ap (λ b. b || list_any has_pause kids) own)
    ∙ sym (has_pause-Branch reach edges kids) ∙ sym (ap has_pause is)
