-- What is written of a node.
use Rattle.std.proofs.Common.{◌≡◌, ℕ, List, ◌++◌, append_assoc, sym, ap, ◌∙◌, map}
use Rattle.std.specs.Prelude.{Result, Ok, Err, OnOk, codes, if◌then◌else◌}
use Rattle.std.specs.Result.{is_ok}
use Rattle.std.specs.Fmt.{decimal}
use Rattle.lf_faults.specs.declared.fault.Parts.{Parts}
use Rattle.lf_tree.specs.declared.tree.Node.{Node}
use Rattle.lf_tree.specs.declared.tree.Node.TheVariants as kind
use Rattle.lf_tree.specs.Texts.{faults_text, in_brackets, node_text}
use Rattle.lf_tree.proofs.KindLemmas.{node_text-Branch, node_text-Misses, node_text-Reaches}
use Rattle.lf_tree.proofs.ListLemmas.{seven}

-- what a call wrote that took the memory it wanted
wrote : {T E : Type 0} (r : Result T E) (before now text whole : List ℕ) → text ≡ whole
    → now ≡ (if is_ok r then before ++ text else before) → OnOk r (now ≡ before ++ whole)
wrote (Ok x) before now text whole same is = is ∙ ap (λ t. before ++ t) same
wrote (Err e) before now text whole same is = tt

pub put-Misses : {T E : Type 0} (n : Node) (before now : List ℕ) (r : Result T E) → n ≡ kind.Misses
    → now ≡ (if is_ok r then before ++ codes "{\"misses\":true}" else before) → OnOk r (now ≡ before ++ node_text n)
put-Misses n before now r is written =
    wrote r before now (codes "{\"misses\":true}") (node_text n) (sym (ap node_text is ∙ node_text-Misses)) written

pub put-Reaches : {T E : Type 0} (n : Node) (before now : List ℕ) (r : Result T E) → n ≡ kind.Reaches
    → now ≡ (if is_ok r then before ++ codes "{\"misses\":false}" else before) → OnOk r (now ≡ before ++ node_text n)
put-Reaches n before now r is written =
    wrote r before now (codes "{\"misses\":false}") (node_text n) (sym (ap node_text is ∙ node_text-Reaches)) written

pub put-Branch : (n : Node) (reach : List ℕ) (edges es : List Parts) (kids ks : List Node) (before t u v w x y now : List ℕ)
    → n ≡ kind.Branch reach edges kids → es ≡ edges → ks ≡ kids
    → t ≡ before ++ codes "{\"edges\":" → u ≡ t ++ faults_text es → v ≡ u ++ codes ",\"kids\":" → w ≡ v ++ in_brackets (map node_text ks)
    → x ≡ w ++ codes ",\"reach\":" → y ≡ x ++ in_brackets (map decimal reach) → now ≡ y ++ codes "}" → now ≡ before ++ node_text n
put-Branch n reach edges es kids ks before t u v w x y now is edges_read kids_read one two three four five six last =
    seven before t u v w x y now (codes "{\"edges\":") (faults_text edges) (codes ",\"kids\":") (in_brackets (map node_text kids))
    (codes ",\"reach\":") (in_brackets (map decimal reach)) (codes "}") one (two ∙ ap (λ fs. t ++ faults_text fs) edges_read) three
    (four ∙ ap (λ (ns : List Node). v ++ in_brackets (map node_text ns)) kids_read) five six last
    ∙ ap (λ text. before ++ text) (sym (ap node_text is ∙ node_text-Branch reach edges kids))

-- two pieces, one after another
pub put-two : {T E : Type 0} (r : Result T E) (before mid now a b whole : List ℕ) → whole ≡ a ++ b → mid ≡ before ++ a
    → OnOk r (now ≡ mid ++ b) → OnOk r (now ≡ before ++ whole)
put-two (Ok x) before mid now a b whole parts first second =
    second ∙ ap (λ t. t ++ b) first ∙ append_assoc before a b ∙ ap (λ t. before ++ t) (sym parts)
put-two (Err e) before mid now a b whole parts first second = tt
