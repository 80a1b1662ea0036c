-- The value of a tree, its text, and what serde_json reads of that text.
use Rattle.std.proofs.Common.{◌≡◌, ℕ, zero, suc, ◌+◌, ◌*◌, ◌<◌, ◌≤◌, ◌^◌, Bool, true, false, ◌&&◌, ◌||◌, cond, nat_le, List, [], ◌∷◌, ◌++◌, length, map, Option}
use Rattle.std.proofs.Common.{Some, None, option_map, option_and_then, refl, sym, ap, ap₂, ◌∙◌, subst, arith, append_assoc, append-nil, decimal, IsUtf8}
use Rattle.std.specs.Prelude.{codes}
use Rattle.std.specs.List.{list_all, list_any, AllByRecursion}
use Rattle.std.proofs.lemmas.Bool.{and_parts, leb-true}
use Rattle.json.specs.Json as json
use Rattle.json.specs.Lex.{tokens}
use Rattle.json.specs.Tree as tree
use Rattle.json.specs.Tree.{json_tokens, HasNumbers, ItemsHaveNumbers}
use Rattle.json.specs.Print.{escape_byte, quoted}
use Rattle.json.proofs.Printed.Decimals.{IsNumber-decimal}
use Rattle.json.proofs.Printed.Tokens.{tokens-print}
use Rattle.json.proofs.Printed.Trees.{value-json_tokens, ArePrintable-json_tokens}
use Rattle.json.proofs.Printed.Utf8.{are_ascii, IsUtf8-are_ascii}
use Rattle.serde_json.specs.Data.{Data, boolean, number, array, item, object, no_members, member, put}
use Rattle.serde_json.specs.Read.{read, of_json, of_items, of_members, max_depth}
use Rattle.serde_json.specs.View.{items_of}
use Rattle.serde_json.specs.Written.{outline, items_outline, compact_text, items_text}
use Rattle.serde_json.proofs.Numbers.{number_of-decimal}
use Rattle.serde_json.proofs.Texts.{print-outline}
use Rattle.lf_faults.specs.declared.fault.Parts.{Parts}
use Rattle.lf_faults.specs.Faults.{IsFault}
use Rattle.lf_faults.specs.Texts.{spelling}
use Rattle.lf_tree.specs.declared.tree.Tree.{Tree}
use Rattle.lf_tree.specs.declared.tree.Node.{Node}
use Rattle.lf_tree.specs.declared.tree.Node.TheVariants as kind
use Rattle.lf_tree.specs.Texts.{with_commas, in_brackets, faults_text, node_step, node_text, answer_text, tree_text, format_of, is_pause, has_pause}
use Rattle.lf_tree.specs.Texts.{answer_faults, depth_of}
use Rattle.lf_tree.specs.Texts as texts
use Rattle.lf_tree.specs.Trees.{is_fault, is_count, is_reach, is_node_step, is_node, is_answer, IsTree}
use Rattle.lf_tree.specs.Values.{fault_value, whole_value, listed, faults_value, keyed, value_step, node_value, answer_value, tree_value}
use Rattle.lf_tree.proofs.Bytes.{ascii-append, ascii-plain, escape-plain, plain-decimal, plain-spelling}
use Rattle.lf_tree.proofs.Named.{IsFault-true}
use Rattle.lf_tree.proofs.Inductions.{by_induction}
use Rattle.lf_tree.proofs.NodeCases.{fold-Misses, fold-Reaches, fold-Branch, of_map, all_true, both_of, each_of, depth-kids}

-- the text is that of the value, which nests no deeper than so, and reads as the value
pub record IsWritten (d : Data) (deep : ℕ) (text : List ℕ) : Type 0 where
  pub reads : of_json (outline d) ≡ Some d
  pub numbers : HasNumbers (outline d)
  pub shallow : tree.depth (outline d) ≤ deep
  pub spelled : compact_text d ≡ text
  pub ascii : are_ascii text ≡ true

pub deeper : (d : Data) (j k : ℕ) (text : List ℕ) → IsWritten d j text → j ≤ k → IsWritten d k text
deeper d j k text h more = record { reads = h.reads; numbers = h.numbers; shallow = omega (arith, h.shallow); spelled = h.spelled; ascii = h.ascii }

moved : (d e : Data) (k : ℕ) (s t : List ℕ) → d ≡ e → s ≡ t → IsWritten d k s → IsWritten e k t
moved d e k s t value text h = subst (λ x. IsWritten x k t) value (subst (λ y. IsWritten d k y) text h)

-- numbers and faults
pub whole-written : (n : ℕ) → n < 2 ^ 64 → IsWritten (whole_value n) 0 (decimal n)
whole-written n h = record {
  reads = ap (option_map number) (number_of-decimal n h);
  numbers = IsNumber-decimal n h;
  shallow = omega arith;
  spelled = refl;
  ascii = ascii-plain (decimal n) (plain-decimal n h);
}

pub fault-written : (f : Parts) → IsFault f → IsWritten (fault_value f) 0 (texts.quoted f)
fault-written f h =
    let plain = plain-spelling f h in
    record {
      reads = refl;
      numbers = tt;
      shallow = omega arith;
      spelled = ap (λ s. 34 ∷ (s ++ 34 ∷ [])) (escape-plain (spelling f) plain);
      ascii = ascii-append (spelling f) (34 ∷ []) (ascii-plain (spelling f) plain) refl;
    }

-- lists
module _ {A : Type 0} (value : A → Data) (text : A → List ℕ) (deep : ℕ) where
  abbrev Written : A → Type 0
  Written x = IsWritten (value x) deep (text x)

  items-reads : (xs : List A) → AllByRecursion Written xs → of_items (items_outline (items_of (map value xs))) ≡ Some (items_of (map value xs))
  items-reads [] h = refl
  items-reads (x ∷ xs) h =
      ap (option_and_then (λ d. option_map (item d) (of_items (items_outline (items_of (map value xs)))))) h.0.reads
      ∙ ap (option_map (item (value x))) (items-reads xs h.1)

  items-numbers : (xs : List A) → AllByRecursion Written xs → ItemsHaveNumbers (items_outline (items_of (map value xs)))
  items-numbers [] h = tt
  items-numbers (x ∷ xs) h = (h.0.numbers, items-numbers xs h.1)

  items-shallow : (xs : List A) → AllByRecursion Written xs → tree.items_depth (items_outline (items_of (map value xs))) ≤ deep
  items-shallow [] h = omega arith
  items-shallow (x ∷ xs) h = omega (arith, h.0.shallow, items-shallow xs h.1)

  items-spelled : (xs : List A) → AllByRecursion Written xs → items_text false (items_of (map value xs)) ≡ with_commas (map text xs) ++ 93 ∷ []
  items-spelled [] h = refl
  items-spelled (x ∷ []) h = ap (λ t. t ++ 93 ∷ []) h.0.spelled
  items-spelled (x ∷ y ∷ xs) h =
      ap₂ (λ t rest. t ++ 44 ∷ rest) h.0.spelled (items-spelled (y ∷ xs) h.1)
      ∙ sym (append_assoc (text x) (44 ∷ with_commas (map text (y ∷ xs))) (93 ∷ []))

  items-ascii : (xs : List A) → AllByRecursion Written xs → are_ascii (with_commas (map text xs)) ≡ true
  items-ascii [] h = refl
  items-ascii (x ∷ []) h = h.0.ascii
  items-ascii (x ∷ y ∷ xs) h = ascii-append (text x) (44 ∷ with_commas (map text (y ∷ xs))) h.0.ascii (items-ascii (y ∷ xs) h.1)

  pub list-written : (xs : List A) → AllByRecursion Written xs → IsWritten (listed (map value xs)) (suc deep) (in_brackets (map text xs))
  list-written xs h = record {
    reads = ap (option_map array) (items-reads xs h);
    numbers = items-numbers xs h;
    shallow = omega (arith, items-shallow xs h);
    spelled = ap (λ s. 91 ∷ s) (items-spelled xs h);
    ascii = ascii-append (with_commas (map text xs)) (93 ∷ []) (items-ascii xs h) refl;
  }

-- objects of three keys
module _ (a b c : List ℕ) (x y z : Data) (deep : ℕ) (t u v : List ℕ) (p : IsWritten x deep t) (q : IsWritten y deep u) (r : IsWritten z deep v) where
  pub keyed-reads : put c z (put b y (put a x no_members)) ≡ member a x (member b y (member c z no_members))
      → of_json (outline (keyed a x b y c z)) ≡ Some (keyed a x b y c z)
  keyed-reads in_order =
      ap (λ o. option_map object (option_and_then (λ d. of_members (json.member b (outline y) (json.member c (outline z) json.no_members))
      (put a d no_members)) o)) p.reads
      ∙ ap (λ o. option_map object (option_and_then (λ d. of_members (json.member c (outline z) json.no_members) (put b d (put a x no_members))) o)) q.reads
      ∙ ap (λ o. option_map object (option_and_then (λ d. Some (put c d (put b y (put a x no_members)))) o)) r.reads
      ∙ ap (λ ms. Some (object ms)) in_order

  pub keyed-spelled : compact_text (keyed a x b y c z) ≡ 123 ∷ (quoted a ++ 58 ∷ (t ++ 44 ∷ (quoted b ++ 58 ∷ (u ++ 44 ∷ (quoted c ++ 58 ∷ (v ++ 125 ∷ []))))))
  keyed-spelled =
      ap (λ s. 123 ∷ (quoted a ++ 58 ∷ (s ++ 44 ∷ (quoted b ++ 58 ∷ (compact_text y ++ 44 ∷ (quoted c ++ 58 ∷ (compact_text z ++ 125 ∷ []))))))) p.spelled
      ∙ ap (λ s. 123 ∷ (quoted a ++ 58 ∷ (t ++ 44 ∷ (quoted b ++ 58 ∷ (s ++ 44 ∷ (quoted c ++ 58 ∷ (compact_text z ++ 125 ∷ []))))))) q.spelled
      ∙ ap (λ s. 123 ∷ (quoted a ++ 58 ∷ (t ++ 44 ∷ (quoted b ++ 58 ∷ (u ++ 44 ∷ (quoted c ++ 58 ∷ (s ++ 125 ∷ []))))))) r.spelled

  pub keyed-written : (text : List ℕ) → put c z (put b y (put a x no_members)) ≡ member a x (member b y (member c z no_members))
      → 123 ∷ (quoted a ++ 58 ∷ (t ++ 44 ∷ (quoted b ++ 58 ∷ (u ++ 44 ∷ (quoted c ++ 58 ∷ (v ++ 125 ∷ [])))))) ≡ text → are_ascii text ≡ true
      → IsWritten (keyed a x b y c z) (suc deep) text
  keyed-written text in_order same ascii = record {
    reads = keyed-reads in_order;
    numbers = (p.numbers, (q.numbers, (r.numbers, tt)));
    shallow = omega (arith, p.shallow, q.shallow, r.shallow);
    spelled = keyed-spelled ∙ same;
    ascii = ascii;
  }

fits : (n : ℕ) → nat_le n 48 ≡ true → n < 2 ^ 64
fits n h = omega (arith, leb-true n 48 h)

faults-written : (fs : List Parts) → list_all is_fault fs ≡ true → IsWritten (faults_value fs) 1 (faults_text fs)
faults-written fs h =
    list-written fault_value texts.quoted 0 fs
    (each_of (λ f. is_fault f ≡ true) (λ f. IsWritten (fault_value f) 0 (texts.quoted f)) (λ f is. fault-written f (IsFault-true f is)) fs
    (all_true is_fault fs h))

steps-written : (steps : List ℕ) → list_all (λ t. nat_le t 48) steps ≡ true → IsWritten (listed (map whole_value steps)) 1 (in_brackets (map decimal steps))
steps-written steps h =
    list-written whole_value decimal 0 steps
    (each_of (λ t. nat_le t 48 ≡ true) (λ t. IsWritten (whole_value t) 0 (decimal t)) (λ t is. whole-written t (fits t is)) steps
    (all_true (λ t. nat_le t 48) steps h))

-- a node in which at most so many branches stand one in the other
abbrev IsNodeWritten : Node → Type 0
IsNodeWritten n = (room : ℕ) → is_node n ≡ true → depth_of n ≤ room → IsWritten (node_value n) (2 * room + 1) (node_text n)

leaf-written : (b : Bool) (text : List ℕ) → compact_text (object (member (codes "misses") (boolean b) no_members)) ≡ text → are_ascii text ≡ true
    → IsWritten (object (member (codes "misses") (boolean b) no_members)) 1 text
leaf-written b text same ascii = record { reads = refl; numbers = (tt, tt); shallow = omega arith; spelled = same; ascii = ascii }

misses-written : IsWritten (object (member (codes "misses") (boolean true) no_members)) 1 (codes "{\"misses\":true}")
unfolding escape_byte
misses-written = leaf-written true (codes "{\"misses\":true}") refl refl

reaches-written : IsWritten (object (member (codes "misses") (boolean false) no_members)) 1 (codes "{\"misses\":false}")
unfolding escape_byte
reaches-written = leaf-written false (codes "{\"misses\":false}") refl refl

branch_text : List ℕ → List ℕ → List ℕ → List ℕ
branch_text edges kids reach = codes "{\"edges\":" ++ (edges ++ (codes ",\"kids\":" ++ (kids ++ (codes ",\"reach\":" ++ (reach ++ codes "}")))))

branch-ascii : (edges kids reach : List ℕ) → are_ascii edges ≡ true → are_ascii kids ≡ true → are_ascii reach ≡ true
    → are_ascii (branch_text edges kids reach) ≡ true
unfolding branch_text
branch-ascii edges kids reach e k r =
    ascii-append edges _ e (ascii-append kids (codes ",\"reach\":" ++ (reach ++ codes "}")) k (ascii-append reach (codes "}") r refl))

branch-spelled : (t u v : List ℕ) → 123 ∷ (quoted (codes "edges") ++ 58 ∷
    (t ++ 44 ∷ (quoted (codes "kids") ++ 58 ∷ (u ++ 44 ∷ (quoted (codes "reach") ++ 58 ∷ (v ++ 125 ∷ []))))))
    ≡ branch_text t u v
unfolding escape_byte branch_text
branch-spelled t u v = refl

branch-written : (x y z : Data) (deep : ℕ) (t u v : List ℕ) → IsWritten x deep t → IsWritten y deep u → IsWritten z deep v
    → IsWritten (keyed (codes "edges") x (codes "kids") y (codes "reach") z) (suc deep) (branch_text t u v)
branch-written x y z deep t u v p q r =
    keyed-written (codes "edges") (codes "kids") (codes "reach") x y z deep t u v p q r (branch_text t u v) refl (branch-spelled t u v)
    (branch-ascii t u v p.ascii q.ascii r.ascii)

branch-is : (t u v : List ℕ) → branch_text t u v ≡ codes "{\"edges\":" ++ (t ++ (codes ",\"kids\":" ++ (u ++ (codes ",\"reach\":" ++ (v ++ codes "}")))))
unfolding branch_text
branch-is t u v = refl

-- what is kept of the parts of a branch
pub record AreParts (reach : List ℕ) (edges : List Parts) (kids : List Node) : Type 0 where
  pub count : is_count (length reach) ≡ true
  pub steps : list_all (λ t. nat_le t 48) reach ≡ true
  pub faults : list_all is_fault edges ≡ true
  pub nodes : AllByRecursion (λ n. is_node n ≡ true) kids

pub parts-Branch : (reach : List ℕ) (edges : List Parts) (kids : List Node) → is_node (kind.Branch reach edges kids) ≡ true → AreParts reach edges kids
parts-Branch reach edges kids h =
    let whole = sym (fold-Branch Bool is_node_step reach edges kids) ∙ h in
    let first = and_parts (is_reach reach) (list_all is_fault edges && list_all (λ b. b) (map is_node kids)) whole in
    let reached = and_parts (is_count (length reach)) (list_all (λ t. nat_le t 48) reach) first.0 in
    let rest = and_parts (list_all is_fault edges) (list_all (λ b. b) (map is_node kids)) first.1 in
    record {
      count = reached.0;
      steps = reached.1;
      faults = rest.0;
      nodes = of_map (λ b. b ≡ true) is_node kids (all_true (λ b. b) (map is_node kids) rest.1);
    }

node-branch : (reach : List ℕ) (edges : List Parts) (kids : List Node) → AllByRecursion IsNodeWritten kids → IsNodeWritten (kind.Branch reach edges kids)
node-branch reach edges kids each zero is shallow = absurd (omega (arith, (depth-kids reach edges kids 0 shallow).0))
node-branch reach edges kids each (suc room) is shallow =
    let parts = parts-Branch reach edges kids is in
    let low = (depth-kids reach edges kids (suc room) shallow).1 room (omega arith) in
    let beneath : AllByRecursion (λ n. IsWritten (node_value n) (2 * room + 1) (node_text n)) kids =
    both_of (λ n. is_node n ≡ true) (λ n. IsNodeWritten n × (depth_of n ≤ room)) (λ n. IsWritten (node_value n) (2 * room + 1) (node_text n))
    (λ n k w. w.0 room k w.1) kids
    parts.nodes (both_of IsNodeWritten (λ n. depth_of n ≤ room) (λ n. IsNodeWritten n × (depth_of n ≤ room)) (λ n w d. (w, d)) kids each low) in
    let deep : ℕ = suc (2 * room + 1) in
    let whole =
    branch-written (faults_value edges) (listed (map node_value kids)) (listed (map whole_value reach)) deep (faults_text edges)
    (in_brackets (map node_text kids)) (in_brackets (map decimal reach))
    (deeper _ 1 deep _ (faults-written edges parts.faults) (omega arith))
    (list-written node_value node_text (2 * room + 1) kids beneath)
    (deeper _ 1 deep _ (steps-written reach parts.steps) (omega arith)) in
    let value = sym (fold-Branch Data value_step reach edges kids) in
    let text = branch-is (faults_text edges) (in_brackets (map node_text kids)) (in_brackets (map decimal reach))
    ∙ sym (fold-Branch (List ℕ) node_step reach edges kids) in
    deeper _ (suc deep) _ _ (moved _ _ (suc deep) _ _ value text whole) (omega arith)

node-misses : IsNodeWritten kind.Misses
node-misses room is shallow =
    deeper _ 1 _ _
    (moved _ (node_value kind.Misses) 1 _ (node_text kind.Misses) (sym (fold-Misses Data value_step)) (sym (fold-Misses (List ℕ) node_step)) misses-written)
    (omega arith)

node-reaches : IsNodeWritten kind.Reaches
node-reaches room is shallow =
    deeper _ 1 _ _
    (moved _ (node_value kind.Reaches) 1 _ (node_text kind.Reaches) (sym (fold-Reaches Data value_step))
    (sym (fold-Reaches (List ℕ) node_step)) reaches-written) (omega arith)

pub node-written : (n : Node) → IsNodeWritten n
node-written = by_induction IsNodeWritten (record { misses = node-misses; reaches = node-reaches; branch = node-branch })

answer-written : (answer : Option (List Parts)) → is_answer answer ≡ true → IsWritten (answer_value answer) 1 (answer_text answer)
answer-written None h = record { reads = refl; numbers = tt; shallow = omega arith; spelled = refl; ascii = refl }
answer-written (Some fs) h = faults-written fs (and_parts _ _ (and_parts _ _ h).1).0

small-if : (b : Bool) → cond b 2 1 < 2 ^ 64
small-if true = omega arith
small-if false = omega arith

pub format-small : (t : Tree) → format_of t < 2 ^ 64
format-small t = small-if (list_any is_pause (answer_faults t.answer) || has_pause t.root)

whole_text : List ℕ → List ℕ → List ℕ → List ℕ
whole_text answer format root = codes "{\"answer\":" ++ (answer ++ (codes ",\"format\":" ++ (format ++ (codes ",\"root\":" ++ (root ++ codes "}")))))

whole-ascii : (answer format root : List ℕ) → are_ascii answer ≡ true → are_ascii format ≡ true → are_ascii root ≡ true
    → are_ascii (whole_text answer format root) ≡ true
unfolding whole_text
whole-ascii answer format root a f r =
    ascii-append answer _ a (ascii-append format (codes ",\"root\":" ++ (root ++ codes "}")) f (ascii-append root (codes "}") r refl))

whole-spelled : (t u v : List ℕ) → 123 ∷ (quoted (codes "answer") ++ 58 ∷
    (t ++ 44 ∷ (quoted (codes "format") ++ 58 ∷ (u ++ 44 ∷ (quoted (codes "root") ++ 58 ∷ (v ++ 125 ∷ []))))))
    ≡ whole_text t u v
unfolding escape_byte whole_text
whole-spelled t u v = refl

whole-is : (t u v : List ℕ) → whole_text t u v ≡ codes "{\"answer\":" ++ (t ++ (codes ",\"format\":" ++ (u ++ (codes ",\"root\":" ++ (v ++ codes "}")))))
unfolding whole_text
whole-is t u v = refl

pub tree-written : (t : Tree) → IsTree t → depth_of t.root ≤ 6 → IsWritten (tree_value t) 14 (tree_text t)
tree-written t is shallow =
    let answer = deeper _ 1 13 _ (answer-written t.answer is.answer) (omega arith) in
    let format = deeper _ 0 13 _ (whole-written (format_of t) (format-small t)) (omega arith) in
    let root = node-written t.root 6 is.root shallow in
    subst (λ s. IsWritten (tree_value t) 14 s) (whole-is (answer_text t.answer) (decimal (format_of t)) (node_text t.root))
    (keyed-written (codes "answer") (codes "format") (codes "root") (answer_value t.answer) (whole_value (format_of t)) (node_value t.root) 13
    (answer_text t.answer) (decimal (format_of t)) (node_text t.root) answer format root
    (whole_text (answer_text t.answer) (decimal (format_of t)) (node_text t.root)) refl
    (whole-spelled (answer_text t.answer) (decimal (format_of t)) (node_text t.root))
    (whole-ascii (answer_text t.answer) (decimal (format_of t)) (node_text t.root) answer.ascii format.ascii root.ascii))

-- what serde_json reads of the text of a value
pub read-written : (d : Data) (deep : ℕ) (text : List ℕ) → IsWritten d deep text → deep ≤ max_depth → IsUtf8 text × (read text ≡ Some d)
read-written d deep text h low = (
  IsUtf8-are_ascii text h.ascii,
  ap (λ s. option_and_then of_json (option_and_then (λ p. json.if_last p.0 p.1) (json.value max_depth s)))
      (ap tokens (sym h.spelled ∙ sym (print-outline d)) ∙ tokens-print (json_tokens (outline d)) (ArePrintable-json_tokens (outline d) h.numbers)
      ∙ sym (append-nil (json_tokens (outline d))))
      ∙ ap (λ o. option_and_then of_json (option_and_then (λ p. json.if_last p.0 p.1) o))
      (value-json_tokens (outline d) max_depth [] (omega (arith, h.shallow)))
      ∙ h.reads,
)
