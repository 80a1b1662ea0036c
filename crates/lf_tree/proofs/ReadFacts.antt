-- What is read is no deeper than may be, and what can be wrong with a value.
use Rattle.std.proofs.Common.{◌≡◌, ℕ, zero, suc, ◌≤◌, Bool, true, false, ◌||◌, ◌==◌, cond, nat_le, ◌∷◌, Option, Some, None, Ok, Err, refl, arith, IfOk, IfErr}
use Rattle.std.proofs.Common.{option_and_then}
use Rattle.std.specs.Prelude.{codes, ⊤}
use Rattle.std.specs.List.{AllByRecursion}
use Rattle.serde_json.specs.Data.{Data, null, boolean, number, string, array, object, Items, no_items, item}
use Rattle.serde_json.specs.Events.{items_len}
use Rattle.serde_json.specs.Find.{as_number, as_u64}
use Rattle.lf_tree.specs.declared.fault.TreeFault.{TreeFault}
use Rattle.lf_tree.specs.declared.fault.TreeFault.TheVariants.{TooLong, NoJson, Form, OutOfRange, TooDeep, Memory}
use Rattle.lf_tree.specs.declared.tree.Tree.{Tree}
use Rattle.lf_tree.specs.declared.tree.Node.{Node}
use Rattle.lf_tree.specs.declared.tree.Node.TheVariants as kind
use Rattle.lf_tree.specs.Texts.{depth_of, depth_step}
use Rattle.lf_tree.specs.Trees.{is_ascending, is_count}
use Rattle.lf_tree.specs.Reading.{Reading, ◌>>=◌, checked, some_or, fault_named, fault_in, whole_in, step_in, all_in, faults_in, edges_in, steps_in, reach_in}
use Rattle.lf_tree.specs.Reading.{BranchData, set_in, answer_in, format_in, one_in, branch_parts, tree_parts}
use Rattle.lf_tree.specs.Reading.{leaf_in, leaf_or, kids_in, branch_in, node_in, most_branches, parts_in}
use Rattle.lf_tree.specs.Reading.{tree_in}
use Rattle.lf_tree.proofs.NodeCases.{fold-Misses, fold-Reaches, depth-Branch-le}

-- Depth

after-ok : {A B : Type 0} (P : A → Type 0) (Q : B → Type 0) (r : Reading A) (next : A → Reading B) → IfOk r P → ((x : A) → P x → IfOk (next x) Q)
    → IfOk (r >>= next) Q
after-ok P Q (Ok x) next h k = k x h
after-ok P Q (Err e) next h k = tt

any-ok : {A : Type 0} (r : Reading A) → IfOk r (λ _. ⊤)
any-ok (Ok x) = tt
any-ok (Err e) = tt

all-ok : {A : Type 0} (P : A → Type 0) (read : Data → Reading A) → ((d : Data) → IfOk (read d) P) → (ds : Items) → IfOk (all_in read ds) (AllByRecursion P)
all-ok P read h no_items = tt
all-ok P read h (item d ds) =
    after-ok P (AllByRecursion P) (read d) (λ x. all_in read ds >>= (λ xs. Ok (x ∷ xs))) (h d)
    (λ x p. after-ok (AllByRecursion P) (AllByRecursion P) (all_in read ds) (λ xs. Ok (x ∷ xs)) (all-ok P read h ds) (λ xs ps. (p, ps)))

abbrev IsLow : ℕ → Node → Type 0
IsLow room n = depth_of n ≤ room

misses-low : (room : ℕ) → IsLow room kind.Misses
misses-low room = let e : depth_of kind.Misses ≡ 0 = fold-Misses ℕ depth_step in omega arith

reaches-low : (room : ℕ) → IsLow room kind.Reaches
reaches-low room = let e : depth_of kind.Reaches ≡ 0 = fold-Reaches ℕ depth_step in omega arith

leaf-low : (room : ℕ) (d : Data) → IfOk (leaf_in d) (IsLow room)
leaf-low room null = tt
leaf-low room (boolean true) = misses-low room
leaf-low room (boolean false) = reaches-low room
leaf-low room (number n) = tt
leaf-low room (string s) = tt
leaf-low room (array ds) = tt
leaf-low room (object ms) = tt

leaf_or-low : (room : ℕ) (branch : BranchData → Reading Node) → ((parts : BranchData) → IfOk (branch parts) (IsLow room))
    → (leaf : Option Data) (parts : Option BranchData) → IfOk (leaf_or branch leaf parts) (IsLow room)
leaf_or-low room branch h (Some d) parts = leaf-low room d
leaf_or-low room branch h None (Some parts) = h parts
leaf_or-low room branch h None None = tt

kids-low : (room : ℕ) (read : Data → Reading Node) → ((d : Data) → IfOk (read d) (IsLow room)) → (d : Data)
    → IfOk (kids_in read d) (AllByRecursion (IsLow room))
kids-low room read h null = tt
kids-low room read h (boolean b) = tt
kids-low room read h (number n) = tt
kids-low room read h (string s) = tt
kids-low room read h (array ds) = all-ok (IsLow room) read h ds
kids-low room read h (object ms) = tt

branch-low : (room : ℕ) (read : Data → Reading Node) → ((d : Data) → IfOk (read d) (IsLow room)) → (parts : BranchData)
    → IfOk (branch_in read parts) (IsLow (suc room))
branch-low room read h parts =
    after-ok (λ _. ⊤) (IsLow (suc room)) (edges_in parts.edges) _ (any-ok (edges_in parts.edges))
    (λ es e. after-ok (λ _. ⊤) (IsLow (suc room)) (reach_in parts.reach) (λ rs. kids_in read parts.kids >>= (λ ns. Ok (kind.Branch rs es ns)))
    (any-ok (reach_in parts.reach))
    (λ rs r. after-ok (AllByRecursion (IsLow room)) (IsLow (suc room)) (kids_in read parts.kids) (λ ns. Ok (kind.Branch rs es ns))
    (kids-low room read h parts.kids)
    (λ ns low. omega (arith, depth-Branch-le rs es ns room low))))

pub node-low : (room : ℕ) (d : Data) → IfOk (node_in room d) (IsLow room)
unfolding node_in
node-low zero d = leaf_or-low zero (λ parts. Err TooDeep) (λ parts. tt) (one_in (codes "misses") d) (branch_parts d)
node-low (suc room) d =
    leaf_or-low (suc room) (branch_in (node_in room)) (branch-low room (node_in room) (node-low room)) (one_in (codes "misses") d)
    (branch_parts d)

abbrev IsShallow : Tree → Type 0
IsShallow t = depth_of t.root ≤ 6

pub tree-low : (d : Data) → IfOk (tree_in d) IsShallow
tree-low d =
    after-ok (λ _. ⊤) IsShallow (some_or Form (tree_parts d)) parts_in
    (any-ok (some_or Form (tree_parts d)))
    (λ parts p. after-ok (λ _. ⊤) IsShallow (answer_in parts.answer) _ (any-ok (answer_in parts.answer))
    (λ a q. after-ok (λ _. ⊤) IsShallow (format_in parts.format) (λ f. node_in most_branches parts.root >>= (λ n. Ok (record { answer = a; root = n })))
    (any-ok (format_in parts.format))
    (λ f r. after-ok (IsLow 6) IsShallow (node_in most_branches parts.root) (λ n. Ok (record { answer = a; root = n }))
    (node-low 6 parts.root) (λ n low. low))))

-- What can be wrong

-- what a value can be refused for
abbrev pub is_of_value : TreeFault → Bool
is_of_value TooLong = false
is_of_value NoJson = false
is_of_value Form = true
is_of_value OutOfRange = true
is_of_value TooDeep = true
is_of_value Memory = false

abbrev pub IsSound : {A : Type 0} → Reading A → Type 0
IsSound r = IfErr r (λ e. is_of_value e ≡ true)

pub after-sound : {A B : Type 0} (r : Reading A) (next : A → Reading B) → IsSound r → ((x : A) → IsSound (next x)) → IsSound (r >>= next)
after-sound (Ok x) next h k = k x
after-sound (Err e) next h k = h

pub checked-sound : {A : Type 0} (e : TreeFault) (b : Bool) (x : A) → is_of_value e ≡ true → IsSound (checked e b x)
checked-sound e true x h = tt
checked-sound e false x h = h

some-sound : {A : Type 0} (e : TreeFault) (o : Option A) → is_of_value e ≡ true → IsSound (some_or e o)
some-sound e (Some x) h = tt
some-sound e None h = h

if-sound : {A : Type 0} (b : Bool) (r : Reading A) → IsSound r → IsSound (cond b r (Err Form))
if-sound true r h = h
if-sound false r h = refl

all-sound : {A : Type 0} (read : Data → Reading A) → ((d : Data) → IsSound (read d)) → (ds : Items) → IsSound (all_in read ds)
all-sound read h no_items = tt
all-sound read h (item d ds) =
    after-sound (read d) (λ x. all_in read ds >>= (λ xs. Ok (x ∷ xs))) (h d)
    (λ x. after-sound (all_in read ds) (λ xs. Ok (x ∷ xs)) (all-sound read h ds) (λ xs. tt))

fault-sound : (d : Data) → IsSound (fault_in d)
fault-sound null = refl
fault-sound (boolean b) = refl
fault-sound (number n) = refl
fault-sound (string s) = some-sound OutOfRange (fault_named s) refl
fault-sound (array ds) = refl
fault-sound (object ms) = refl

whole-sound : (d : Data) → IsSound (whole_in d)
whole-sound d = some-sound Form (option_and_then as_u64 (as_number d)) refl

step-sound : (d : Data) → IsSound (step_in d)
step-sound d = after-sound (whole_in d) (λ n. checked OutOfRange (nat_le n 48) n) (whole-sound d) (λ n. checked-sound OutOfRange (nat_le n 48) n refl)

edges-sound : (d : Data) → IsSound (edges_in d)
edges-sound null = refl
edges-sound (boolean b) = refl
edges-sound (number n) = refl
edges-sound (string s) = refl
edges-sound (array ds) = all-sound fault_in fault-sound ds
edges-sound (object ms) = refl

reach-sound : (d : Data) → IsSound (reach_in d)
reach-sound null = refl
reach-sound (boolean b) = refl
reach-sound (number n) = refl
reach-sound (string s) = refl
reach-sound (array ds) = if-sound (is_count (items_len ds)) (steps_in ds) (all-sound step_in step-sound ds)
reach-sound (object ms) = refl

answer-sound : (d : Data) → IsSound (answer_in d)
answer-sound null = tt
answer-sound (boolean b) = refl
answer-sound (number n) = refl
answer-sound (string s) = refl
answer-sound (array ds) =
    if-sound (nat_le (items_len ds) 6) (faults_in ds >>= set_in)
    (after-sound (faults_in ds) set_in (all-sound fault_in fault-sound ds) (λ fs. checked-sound Form (is_ascending fs) (Some fs) refl))
answer-sound (object ms) = refl

format-sound : (d : Data) → IsSound (format_in d)
format-sound d =
    after-sound (whole_in d) (λ n. checked OutOfRange ((n == 1) || (n == 2)) n) (whole-sound d) (λ n. checked-sound OutOfRange ((n == 1) || (n == 2)) n refl)

leaf-sound : (d : Data) → IsSound (leaf_in d)
leaf-sound null = refl
leaf-sound (boolean true) = tt
leaf-sound (boolean false) = tt
leaf-sound (number n) = refl
leaf-sound (string s) = refl
leaf-sound (array ds) = refl
leaf-sound (object ms) = refl

kids-sound : (read : Data → Reading Node) → ((d : Data) → IsSound (read d)) → (d : Data) → IsSound (kids_in read d)
kids-sound read h null = refl
kids-sound read h (boolean b) = refl
kids-sound read h (number n) = refl
kids-sound read h (string s) = refl
kids-sound read h (array ds) = all-sound read h ds
kids-sound read h (object ms) = refl

leaf_or-sound : (branch : BranchData → Reading Node) → ((parts : BranchData) → IsSound (branch parts)) → (leaf : Option Data)
    (parts : Option BranchData) → IsSound (leaf_or branch leaf parts)
leaf_or-sound branch h (Some d) parts = leaf-sound d
leaf_or-sound branch h None (Some parts) = h parts
leaf_or-sound branch h None None = refl

branch-sound : (read : Data → Reading Node) → ((d : Data) → IsSound (read d)) → (parts : BranchData) → IsSound (branch_in read parts)
branch-sound read h parts =
    after-sound (edges_in parts.edges) _ (edges-sound parts.edges)
    (λ es. after-sound (reach_in parts.reach) (λ rs. kids_in read parts.kids >>= (λ ns. Ok (kind.Branch rs es ns))) (reach-sound parts.reach)
    (λ rs. after-sound (kids_in read parts.kids) (λ ns. Ok (kind.Branch rs es ns)) (kids-sound read h parts.kids) (λ ns. tt)))

node-sound : (room : ℕ) (d : Data) → IsSound (node_in room d)
unfolding node_in
node-sound zero d = leaf_or-sound (λ parts. Err TooDeep) (λ parts. refl) (one_in (codes "misses") d) (branch_parts d)
node-sound (suc room) d =
    leaf_or-sound (branch_in (node_in room)) (branch-sound (node_in room) (node-sound room)) (one_in (codes "misses") d)
    (branch_parts d)

pub tree-sound : (d : Data) → IsSound (tree_in d)
tree-sound d =
    after-sound (some_or Form (tree_parts d)) parts_in
    (some-sound Form (tree_parts d) refl)
    (λ parts. after-sound (answer_in parts.answer) _ (answer-sound parts.answer)
    (λ a. after-sound (format_in parts.format) (λ f. node_in most_branches parts.root >>= (λ n. Ok (record { answer = a; root = n })))
    (format-sound parts.format)
    (λ f. after-sound (node_in most_branches parts.root) (λ n. Ok (record { answer = a; root = n })) (node-sound most_branches parts.root) (λ n. tt))))
