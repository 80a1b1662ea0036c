-- What the types of a tree keep, as tests.
use Rattle.std.proofs.Common.{◌≡◌, ℕ, suc, ◌+◌, ◌<◌, ◌≤◌, Bool, true, ◌&&◌, nat_le, List, [], ◌∷◌, ◌++◌, length, get_or, take, refl, sym, ap, ◌∙◌, arith, map}
use Rattle.std.proofs.Common.{Option, Some}
use Rattle.std.specs.Prelude.{All}
use Rattle.std.specs.List.{list_all, AllByRecursion}
use Rattle.std.proofs.lemmas.Bool.{and_from, and_parts, le-leb}
use Rattle.std.proofs.lemmas.List.{take_more}
use Rattle.lf_faults.specs.declared.fault.Parts.{Parts}
use Rattle.lf_faults.specs.Faults.{is_before, IsAscending}
use Rattle.lf_outcome.specs.Reaches.{IsReach}
use Rattle.lf_tree.specs.declared.tree.Node.{Node}
use Rattle.lf_tree.specs.declared.tree.Node.TheVariants as kind
use Rattle.lf_tree.specs.Trees.{is_fault, is_ascending, is_reach, is_answer, is_node_step, is_node}
use Rattle.lf_tree.proofs.NodeCases.{fold-Misses, fold-Reaches, fold-Branch}

all-true : {A : Type 0} (test : A → Bool) (xs : List A) → AllByRecursion (λ x. test x ≡ true) xs → list_all test xs ≡ true
all-true test [] h = refl
all-true test (x ∷ xs) h = and_from _ _ h.0 (all-true test xs h.1)

ascending-true : (fs : List Parts) → IsAscending fs → is_ascending fs ≡ true
ascending-true [] h = refl
ascending-true (f ∷ fs) h = and_from _ _ (all-true (is_before f) fs h.0) (ascending-true fs h.1)

steps-true : (steps : List ℕ) → All (λ t. t ≤ 48) steps → list_all (λ t. nat_le t 48) steps ≡ true
steps-true [] h = refl
steps-true (t ∷ steps) h = and_from _ _ (le-leb t 48 (h 0 0 (omega arith))) (steps-true steps (λ k d below. h (suc k) d (omega arith)))

pub reach-true : (reach : List ℕ) → IsReach reach → is_reach reach ≡ true
reach-true reach h = and_from _ _ (and_from _ _ (le-leb 2 (length reach) h.two) (le-leb (length reach) 8 h.few)) (steps-true reach h.short)

answer-true : (faults : List Parts) → length faults ≤ 6 → list_all is_fault faults ≡ true → IsAscending faults
    → (nat_le (length faults) 6 && (list_all is_fault faults && is_ascending faults)) ≡ true
answer-true faults few each ascends = and_from _ _ (le-leb (length faults) 6 few) (and_from _ _ each (ascending-true faults ascends))

pub answer-kept : (answer : Option (List Parts)) (faults items : List Parts) → answer ≡ Some faults → items ≡ faults → length faults ≤ 6
    → list_all is_fault items ≡ true → IsAscending faults → is_answer answer ≡ true
answer-kept answer faults items is same few each ascends =
    ap is_answer is ∙ answer-true faults few (sym (ap (list_all is_fault) same) ∙ each) ascends

all-push : {A : Type 0} (test : A → Bool) (xs : List A) (x : A) → list_all test xs ≡ true → test x ≡ true → list_all test (xs ++ x ∷ []) ≡ true
all-push test [] x h k = and_from _ _ k refl
all-push test (y ∷ xs) x h k = let p = and_parts (test y) (list_all test xs) h in and_from _ _ p.0 (all-push test xs x p.1 k)

-- one more
pub all-next : {A : Type 0} (test : A → Bool) (xs : List A) (i : ℕ) (x : A) → i < length xs → x ≡ get_or xs i x → list_all test (take i xs) ≡ true
    → test x ≡ true
    → list_all test (take (i + 1) xs) ≡ true
all-next test xs i x l is h k =
    ap (list_all test) (take_more xs i x l ∙ ap (λ y. take i xs ++ y ∷ []) (sym is)) ∙ all-push test (take i xs) x h k

all-same : (test : Node → Bool) (kids : List Node) → list_all (λ b. b) (map test kids) ≡ list_all test kids
all-same test [] = refl
all-same test (kid ∷ kids) = ap (λ b. test kid && b) (all-same test kids)

pub Misses-true : (n : Node) → n ≡ kind.Misses → is_node n ≡ true
Misses-true n is = ap is_node is ∙ fold-Misses Bool is_node_step

pub Reaches-true : (n : Node) → n ≡ kind.Reaches → is_node n ≡ true
Reaches-true n is = ap is_node is ∙ fold-Reaches Bool is_node_step

pub Branch-true : (n : Node) (reach : List ℕ) (edges es : List Parts) (kids ks : List Node) → n ≡ kind.Branch reach edges kids → es ≡ edges → ks ≡ kids
    → IsReach reach → list_all is_fault es ≡ true → list_all is_node ks ≡ true → is_node n ≡ true
Branch-true n reach edges es kids ks is edges_read kids_read r e k =
    ap is_node is ∙ fold-Branch Bool is_node_step reach edges kids
    ∙ and_from _ _ (reach-true reach r)
    (and_from _ _ (sym (ap (list_all is_fault) edges_read) ∙ e) (all-same is_node kids ∙ sym (ap (λ (ns : List Node). list_all is_node ns) kids_read) ∙ k))
