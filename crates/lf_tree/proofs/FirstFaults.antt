-- What is wrong with a text first, and what is read of a tree's own text.
use Rattle.std.proofs.Common.{◌≡◌, ◌≢◌, ℕ, ◌≤◌, true, false, List, length, Option, Some, None, Ok, Err, refl, sym, ap, ◌∙◌, subst, arith, IfOk, IfErr, bytes_eq}
use Rattle.std.specs.Prelude.{MatchResult}
use Rattle.std.proofs.lemmas.Bool.{true≢false, false_from_ne_true}
use Rattle.std.proofs.lemmas.Slice.Eq.{bytes_eq-Decides}
use Rattle.serde_json.specs.Data.{Data}
use Rattle.serde_json.specs.Read.{read}
use Rattle.lf_tree.specs.declared.fault.TreeFault.{TreeFault}
use Rattle.lf_tree.specs.declared.fault.TreeFault.TheVariants.{TooLong, NoJson, Form, OutOfRange, TooDeep, Memory}
use Rattle.lf_tree.specs.declared.tree.Tree.{Tree}
use Rattle.lf_tree.specs.Texts.{IsInRange, tree_text, most_bytes, depth_of}
use Rattle.lf_tree.specs.Trees.{IsTree}
use Rattle.lf_tree.specs.Values.{tree_value}
use Rattle.lf_tree.specs.Reading.{Reading, ◌>>=◌, checked, tree_in}
use Rattle.lf_tree.specs.FirstFaults.{IsJson, if_own, IsWrong, IsFirstFault}
use Rattle.lf_tree.proofs.ReadBack.{tree-back}
use Rattle.lf_tree.proofs.ReadFacts.{is_of_value, IsSound, tree-sound, tree-low}
use Rattle.lf_tree.proofs.Written.{tree-written, read-written}

-- what a value is refused for
of_value : (bytes : List ℕ) (e : TreeFault) → is_of_value e ≡ true → IsWrong bytes e → IsFirstFault bytes e
of_value bytes TooLong h w = absurd (true≢false (sym h))
of_value bytes NoJson h w = absurd (true≢false (sym h))
of_value bytes Form h w = w
of_value bytes OutOfRange h w = w
of_value bytes TooDeep h w = w
of_value bytes Memory h w = absurd (true≢false (sym h))

-- a value that gives no tree
pub value-refused : (bytes : List ℕ) (d : Data) (e : TreeFault) → length bytes ≤ most_bytes → IsJson bytes d → tree_in d ≡ Err e → IsFirstFault bytes e
value-refused bytes d e fits json is =
    of_value bytes e (subst IsSound is (tree-sound d)) (fits, (d, json, ap (λ r. r >>= if_own bytes) is))

-- a value that gives a tree of which the bytes aren't the text
pub text-refused : (bytes : List ℕ) (d : Data) (t : Tree) → length bytes ≤ most_bytes → IsJson bytes d → tree_in d ≡ Ok t → (tree_text t ≡ bytes → ⊥)
    → IsFirstFault bytes Form
text-refused bytes d t fits json is other =
    let differ : bytes_eq (tree_text t) bytes ≡ false = false_from_ne_true _ (λ same. other ((bytes_eq-Decides (tree_text t) bytes).0 same)) in
    (fits, (d, json, ap (λ r. r >>= if_own bytes) is ∙ ap (λ b. checked Form b t) differ))

-- the text of a tree is JSON of its value, which reads as the tree
pub own-json : (t : Tree) → IsTree t → IsInRange t → IsJson (tree_text t) (tree_value t)
own-json t is range = read-written (tree_value t) 14 (tree_text t) (tree-written t is range.shallow) (omega arith)

pub own-read : (bytes : List ℕ) (d : Data) (t : Tree) → IsTree t → IsInRange t → tree_text t ≡ bytes → read bytes ≡ Some d → tree_in d ≡ Ok t
own-read bytes d t is range same reads =
    let own : read bytes ≡ Some (tree_value t) = ap read (sym same) ∙ (own-json t is range).1 in
    let value : d ≡ tree_value t = cc in
    ap tree_in value ∙ tree-back t is range.shallow

pub own-not_refused : (bytes : List ℕ) (t : Tree) → IsTree t → IsInRange t → tree_text t ≡ bytes → ((d : Data) → IsJson bytes d → ⊥) → ⊥
own-not_refused bytes t is range same none = none (tree_value t) (subst (λ b. IsJson b (tree_value t)) same (own-json t is range))

-- what the reader of values gives for a tree's own text
pub own-given : (bytes : List ℕ) (d : Data) (r : Reading Tree) → read bytes ≡ Some d → IfOk r (λ t. tree_in d ≡ Ok t)
    → IfErr r (λ e. e ≢ Memory → tree_in d ≡ Err e)
    → (memory : (e : TreeFault) → (e ≢ Memory → ⊥) → e ≡ Memory) → (t : Tree) → IsTree t → IsInRange t → tree_text t ≡ bytes
    → MatchResult r (λ x. x ≡ t) (λ e. e ≡ Memory)
own-given bytes d (Ok x) reads ok err memory t is range same = let given = own-read bytes d t is range same reads in cc
own-given bytes d (Err e) reads ok err memory t is range same =
    let given = own-read bytes d t is range same reads in
    memory e (λ other. let refused = err other in cc)

is_memory : (e : TreeFault) → (e ≢ Memory → ⊥) → e ≡ Memory
is_memory TooLong h = absurd (h (λ e. cc))
is_memory NoJson h = absurd (h (λ e. cc))
is_memory Form h = absurd (h (λ e. cc))
is_memory OutOfRange h = absurd (h (λ e. cc))
is_memory TooDeep h = absurd (h (λ e. cc))
is_memory Memory h = refl

pub own-value : (bytes : List ℕ) (d : Data) (r : Reading Tree) → IsJson bytes d → IfOk r (λ t. tree_in d ≡ Ok t) → IfErr r (λ e. e ≢ Memory → tree_in d ≡ Err e)
    → (t : Tree) → IsTree t → IsInRange t → tree_text t ≡ bytes → MatchResult r (λ x. x ≡ t) (λ e. e ≡ Memory)
own-value bytes d r json ok err = own-given bytes d r json.1 ok err is_memory

-- the two clauses on what is read
pub value-said : (bytes : List ℕ) (d : Data) (r : Reading Tree) → IsJson bytes d → IfOk r (λ t. tree_in d ≡ Ok t)
    → IfOk r (λ t. (v : Data) × IsJson bytes v × (tree_in v ≡ Ok t))
value-said bytes d (Ok t) json ok = (d, json, ok)
value-said bytes d (Err e) json ok = tt

pub value-wrong : (bytes : List ℕ) (d : Data) (r : Reading Tree) → length bytes ≤ most_bytes → IsJson bytes d → IfErr r (λ e. e ≢ Memory → tree_in d ≡ Err e)
    → IfErr r (λ e. e ≢ Memory → IsFirstFault bytes e)
value-wrong bytes d (Ok t) fits json err = tt
value-wrong bytes d (Err e) fits json err = λ other. value-refused bytes d e fits json (err other)

-- a tree that was read is in range
pub said-in_range : (bytes : List ℕ) (d : Data) (t : Tree) → length bytes ≤ most_bytes → tree_in d ≡ Ok t → tree_text t ≡ bytes → IsInRange t
said-in_range bytes d t fits is same = record {
  shallow = subst (λ r. IfOk r (λ x. depth_of x.root ≤ 6)) is (tree-low d);
  short = omega (arith, ap length same, fits);
}

pub some_not_none : {A : Type 0} (o : Option A) (x : A) → o ≡ Some x → o ≡ None → ⊥
some_not_none o x some none = cc
