-- A text is that of one tree at most, or refused for one reason.
use Rattle.std.proofs.Common.{◌≡◌, ℕ, ◌<◌, ◌≤◌, List, length, refl, sym, ap, ◌∙◌, subst, inl, inr, arith}
use Rattle.std.specs.Prelude.{◌⊎◌, Some, Ok, Err}
use Rattle.std.proofs.lemmas.Slice.Eq.{bytes_eq-Decides}
use Rattle.serde_json.specs.Data.{Data}
use Rattle.lf_tree.specs.declared.fault.TreeFault.{TreeFault}
use Rattle.lf_tree.specs.declared.fault.TreeFault.TheVariants.{TooLong, NoJson, Form, OutOfRange, TooDeep, Memory}
use Rattle.lf_tree.specs.declared.tree.Tree.{Tree}
use Rattle.lf_tree.specs.FirstFaults.{IsJson, IsWrong, IsFirstFault, if_own, written_in}
use Rattle.lf_tree.specs.Reading.{◌>>=◌, checked, tree_in}
use Rattle.lf_tree.specs.Texts.{IsInRange, most_bytes, tree_text}
use Rattle.lf_tree.specs.Trees.{IsTree}
use Rattle.lf_tree.specs.Values.{tree_value}
use Rattle.leastfault.specs.Replies.{IsTreeText}

-- bytes stand for one value at most
value_one : (bytes : List ℕ) (d e : Data) → IsJson bytes d → IsJson bytes e → d ≡ e
value_one bytes d e a b = let both : Some d ≡ Some e = sym a.1 ∙ b.1 in cc

-- which of the rules it is by which a text is refused
abbrev IsOfRule : List ℕ → TreeFault → Type 0
IsOfRule text e =
    ((most_bytes < length text) × (e ≡ TooLong))
    ⊎ (((length text ≤ most_bytes) × ((d : Data) → IsJson text d → ⊥) × (e ≡ NoJson)) ⊎ IsWrong text e)

rule_of : (text : List ℕ) (e : TreeFault) → IsFirstFault text e → IsOfRule text e
rule_of text TooLong why = inl (why, refl)
rule_of text NoJson why = inr (inl (why.0, why.1, refl))
rule_of text Form why = inr (inr why)
rule_of text OutOfRange why = inr (inr why)
rule_of text TooDeep why = inr (inr why)
rule_of text Memory why = absurd why

rules_one : (text : List ℕ) (e f : TreeFault) → IsOfRule text e → IsOfRule text f → e ≡ f
rules_one text e f (inl a) (inl b) = a.1 ∙ sym b.1
rules_one text e f (inl a) (inr (inl b)) = absurd (omega (arith, a.0, b.0))
rules_one text e f (inl a) (inr (inr b)) = absurd (omega (arith, a.0, b.0))
rules_one text e f (inr (inl a)) (inl b) = absurd (omega (arith, a.0, b.0))
rules_one text e f (inr (inr a)) (inl b) = absurd (omega (arith, a.0, b.0))
rules_one text e f (inr (inl a)) (inr (inl b)) = a.2 ∙ sym b.2
rules_one text e f (inr (inl a)) (inr (inr b)) = absurd (a.1 b.1.0 b.1.1)
rules_one text e f (inr (inr a)) (inr (inl b)) = absurd (b.1 a.1.0 a.1.1)
rules_one text e f (inr (inr a)) (inr (inr b)) =
    let same : a.1.0 ≡ b.1.0 = value_one text a.1.0 b.1.0 a.1.1 b.1.1 in
    let both : Err e ≡ Err f = sym a.1.2 ∙ ap (written_in text) same ∙ b.1.2 in
    cc

pub tree_faults_one : (text : List ℕ) (e f : TreeFault) → IsFirstFault text e → IsFirstFault text f → e ≡ f
tree_faults_one text e f a b = rules_one text e f (rule_of text e a) (rule_of text f b)

-- of each tree in range: its text is JSON that stands for its value, of which the tree is read
module _ (json : (t : Tree) → IsTree t → IsInRange t → IsJson (tree_text t) (tree_value t))
    (read_back : (t : Tree) → IsTree t → IsInRange t → tree_in (tree_value t) ≡ Ok t) where
  says : (text : List ℕ) (t : Tree) → IsTreeText t text → IsJson text (tree_value t)
  says text t is = subst (λ bytes. IsJson bytes (tree_value t)) is.spelled (json t is.kept is.range)

  pub trees_one : (text : List ℕ) (t u : Tree) → IsTreeText t text → IsTreeText u text → t ≡ u
  trees_one text t u a b =
      let values : tree_value t ≡ tree_value u = value_one text (tree_value t) (tree_value u) (says text t a) (says text u b) in
      let both : Ok t ≡ Ok u = sym (read_back t a.kept a.range) ∙ ap tree_in values ∙ read_back u b.kept b.range in
      cc

  own : (text : List ℕ) (t : Tree) → IsTreeText t text → written_in text (tree_value t) ≡ Ok t
  own text t is =
      ap (λ r. r >>= if_own text) (read_back t is.kept is.range)
      ∙ ap (λ b. checked Form b t) ((bytes_eq-Decides (tree_text t) text).1 is.spelled)

  right_rule : (text : List ℕ) (t : Tree) (e : TreeFault) → IsTreeText t text → IsOfRule text e → ⊥
  right_rule text t e is (inl why) =
      let short : length text ≤ most_bytes = subst (λ (bytes : List ℕ). length bytes ≤ most_bytes) is.spelled is.range.short in
      omega (arith, why.0, short)
  right_rule text t e is (inr (inl why)) = why.1 (tree_value t) (says text t is)
  right_rule text t e is (inr (inr why)) =
      let same : why.1.0 ≡ tree_value t = value_one text why.1.0 (tree_value t) why.1.1 (says text t is) in
      let both : Err e ≡ Ok t = sym why.1.2 ∙ ap (written_in text) same ∙ own text t is in
      cc

  pub tree_not_refused : (text : List ℕ) (t : Tree) (e : TreeFault) → IsTreeText t text → IsFirstFault text e → ⊥
  tree_not_refused text t e is why = right_rule text t e is (rule_of text e why)
