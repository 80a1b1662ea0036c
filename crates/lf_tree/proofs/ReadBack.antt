-- The value of a tree reads as that tree.
use Rattle.std.proofs.Common.{◌≡◌, ◌≢◌, ℕ, suc, ◌-◌, ◌≤◌, Bool, true, false, ◌&&◌, ◌||◌, cond, nat_le, List, [], ◌∷◌, length, map, Option, Some, None, Ok, Err}
use Rattle.std.proofs.Common.{refl, ap, ◌∙◌, arith}
use Rattle.std.specs.List.{list_all, list_any, AllByRecursion}
use Rattle.std.proofs.lemmas.Bool.{and_parts}
use Rattle.serde_json.specs.Data.{Data, boolean}
use Rattle.serde_json.specs.Events.{items_len}
use Rattle.serde_json.specs.View.{items_of}
use Rattle.lf_faults.specs.declared.fault.Parts.{Parts}
use Rattle.lf_tree.specs.declared.fault.TreeFault.TheVariants.{Form, OutOfRange}
use Rattle.lf_tree.specs.declared.tree.Tree.{Tree}
use Rattle.lf_tree.specs.declared.tree.Node.{Node}
use Rattle.lf_tree.specs.declared.tree.Node.TheVariants as kind
use Rattle.lf_tree.specs.Texts.{format_of, is_pause, has_pause, answer_faults, depth_of}
use Rattle.lf_tree.specs.Trees.{is_fault, is_count, is_ascending, is_node, is_answer, IsTree}
use Rattle.lf_tree.specs.Values.{fault_value, whole_value, listed, faults_value, value_step, node_value, answer_value, tree_value}
use Rattle.lf_tree.specs.Reading.{Reading, ◌>>=◌, checked, some_or, fault_in, step_in, all_in, faults_in, edges_in, steps_in, reach_in, set_in, answer_in}
use Rattle.lf_tree.specs.Reading.{format_in, kids_in, node_in, most_branches, tree_in}
use Rattle.lf_tree.proofs.Named.{IsFault-true, named-spelling}
use Rattle.lf_tree.proofs.Inductions.{by_induction}
use Rattle.lf_tree.proofs.NodeCases.{fold-Misses, fold-Reaches, fold-Branch, all_true, both_of, each_of, depth-kids}
use Rattle.lf_tree.proofs.NodeSteps.{node_in-leaf, node_in-branch}
use Rattle.lf_tree.proofs.Written.{parts-Branch}

-- lists
items-back : {A : Type 0} (read : Data → Reading A) (value : A → Data) (xs : List A) → AllByRecursion (λ x. read (value x) ≡ Ok x) xs
    → all_in read (items_of (map value xs)) ≡ Ok xs
items-back read value [] h = refl
items-back read value (x ∷ xs) h =
    ap (λ r. r >>= (λ y. all_in read (items_of (map value xs)) >>= (λ ys. Ok (y ∷ ys)))) h.0
    ∙ ap (λ r. r >>= (λ ys. Ok (x ∷ ys))) (items-back read value xs h.1)

items-length : {A : Type 0} (value : A → Data) (xs : List A) → items_len (items_of (map value xs)) ≡ length xs
items-length value [] = refl
items-length value (x ∷ xs) = ap suc (items-length value xs)

-- faults and numbers
fault-back : (f : Parts) → is_fault f ≡ true → fault_in (fault_value f) ≡ Ok f
fault-back f h = ap (some_or OutOfRange) (named-spelling f (IsFault-true f h))

faults-back : (fs : List Parts) → list_all is_fault fs ≡ true → faults_in (items_of (map fault_value fs)) ≡ Ok fs
faults-back fs h =
    items-back fault_in fault_value fs (each_of (λ f. is_fault f ≡ true) (λ f. fault_in (fault_value f) ≡ Ok f) fault-back fs (all_true is_fault fs h))

step-back : (n : ℕ) → nat_le n 48 ≡ true → step_in (whole_value n) ≡ Ok n
step-back n h = ap (λ b. checked OutOfRange b n) h

reach-back : (reach : List ℕ) → is_count (length reach) ≡ true → list_all (λ t. nat_le t 48) reach ≡ true → reach_in (listed (map whole_value reach)) ≡ Ok reach
reach-back reach count steps =
    let read : steps_in (items_of (map whole_value reach)) ≡ Ok reach =
    items-back step_in whole_value reach (each_of (λ t. nat_le t 48 ≡ true) (λ t. step_in (whole_value t) ≡ Ok t) step-back reach
    (all_true (λ t. nat_le t 48) reach steps)) in
    ap (λ b. cond b (steps_in (items_of (map whole_value reach))) (Err Form)) (ap is_count (items-length whole_value reach) ∙ count) ∙ read

answer-back : (answer : Option (List Parts)) → is_answer answer ≡ true → answer_in (answer_value answer) ≡ Ok answer
answer-back None h = refl
answer-back (Some fs) h =
    let p = and_parts (nat_le (length fs) 6) (list_all is_fault fs && is_ascending fs) h in
    let q = and_parts (list_all is_fault fs) (is_ascending fs) p.1 in
    ap (λ b. cond b (faults_in (items_of (map fault_value fs)) >>= set_in) (Err Form)) (ap (λ n. nat_le n 6) (items-length fault_value fs) ∙ p.0)
    ∙ ap (λ r. r >>= set_in) (faults-back fs q.0) ∙ ap (λ b. checked Form b (Some fs)) q.1

one-or-two : (b : Bool) → format_in (whole_value (cond b 2 1)) ≡ Ok (cond b 2 1)
one-or-two true = refl
one-or-two false = refl

format-back : (t : Tree) → format_in (whole_value (format_of t)) ≡ Ok (format_of t)
format-back t = one-or-two (list_any is_pause (answer_faults t.answer) || has_pause t.root)

-- nodes
abbrev IsBack : Node → Type 0
IsBack n = (room : ℕ) → is_node n ≡ true → depth_of n ≤ room → node_in room (node_value n) ≡ Ok n

misses-back : IsBack kind.Misses
misses-back room is low = ap (node_in room) (fold-Misses Data value_step) ∙ node_in-leaf room _ (boolean true) refl

reaches-back : IsBack kind.Reaches
reaches-back room is low = ap (node_in room) (fold-Reaches Data value_step) ∙ node_in-leaf room _ (boolean false) refl

branch-back : (reach : List ℕ) (edges : List Parts) (kids : List Node) → AllByRecursion IsBack kids → IsBack (kind.Branch reach edges kids)
branch-back reach edges kids each room is shallow =
    let parts = parts-Branch reach edges kids is in
    let low = depth-kids reach edges kids room shallow in
    let some : room ≢ 0 = λ none. omega (arith, low.0) in
    let beneath : AllByRecursion (λ n. depth_of n ≤ room - 1) kids = low.1 (room - 1) (omega arith) in
    let read : AllByRecursion (λ n. node_in (room - 1) (node_value n) ≡ Ok n) kids =
    both_of (λ n. is_node n ≡ true) (λ n. IsBack n × (depth_of n ≤ room - 1)) (λ n. node_in (room - 1) (node_value n) ≡ Ok n)
    (λ n k w. w.0 (room - 1) k w.1) kids
    parts.nodes (both_of IsBack (λ n. depth_of n ≤ room - 1) (λ n. IsBack n × (depth_of n ≤ room - 1)) (λ n w d. (w, d)) kids each beneath) in
    let kids_read : kids_in (node_in (room - 1)) (listed (map node_value kids)) ≡ Ok kids = items-back (node_in (room - 1)) node_value kids read in
    let edges_read : edges_in (faults_value edges) ≡ Ok edges = faults-back edges parts.faults in
    let reach_read : reach_in (listed (map whole_value reach)) ≡ Ok reach = reach-back reach parts.count parts.steps in
    let value = fold-Branch Data value_step reach edges kids in
    ap (node_in room) value
    ∙ node_in-branch room _ (record { edges = faults_value edges; kids = listed (map node_value kids); reach = listed (map whole_value reach) }) refl refl some
    ∙ ap (λ r. r >>= (λ es. reach_in (listed (map whole_value reach)) >>= (λ rs. kids_in (node_in (room - 1))
    (listed (map node_value kids)) >>= (λ ns. Ok (kind.Branch rs es ns))))) edges_read
    ∙ ap (λ r. r >>= (λ rs. kids_in (node_in (room - 1)) (listed (map node_value kids)) >>= (λ ns. Ok (kind.Branch rs edges ns)))) reach_read
    ∙ ap (λ r. r >>= (λ ns. Ok (kind.Branch reach edges ns))) kids_read

pub node-back : (n : Node) → IsBack n
node-back = by_induction IsBack (record { misses = misses-back; reaches = reaches-back; branch = branch-back })

pub tree-back : (t : Tree) → IsTree t → depth_of t.root ≤ 6 → tree_in (tree_value t) ≡ Ok t
tree-back t is shallow =
    let format = format_in (whole_value (format_of t)) in
    let root = node_in most_branches (node_value t.root) in
    let root_read : root ≡ Ok t.root = node-back t.root 6 is.root shallow in
    let made : Option (List Parts) → Node → Tree = λ a n. record { answer = a; root = n } in
    ap (λ r. r >>= (λ a. format >>= (λ f. root >>= (λ n. Ok (made a n))))) (answer-back t.answer is.answer)
    ∙ ap (λ r. r >>= (λ f. root >>= (λ n. Ok (made t.answer n)))) (format-back t)
    ∙ ap (λ r. r >>= (λ n. Ok (made t.answer n))) root_read
