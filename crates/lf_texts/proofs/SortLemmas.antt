-- What is read of a text is of the sort that its place wants.
use Rattle.std.proofs.Common.{◌≡◌, ◌⊎◌, Bool, true, false, cond, List, [], ◌∷◌, Option, Some, None, Ok, Err, refl, sym, ap, ◌∙◌, inl, inr}
use Rattle.std.specs.Prelude.{codes, nat_le}
use Rattle.lf_rules.specs.Terms.{Term}
use Rattle.lf_rules.specs.Terms as terms
use Rattle.lf_rules.specs.Sorts.{same_sort, is_of, tree_sort, is_a}
use Rattle.lf_rules.specs.Trees.{parts}
use Rattle.lf_rules.specs.declared.expr.Leaf.TheVariants as leaves
use Rattle.lf_rules.specs.declared.sort.Sort.{Sort}
use Rattle.lf_rules.specs.declared.sort.Sort.TheVariants as sorts
use Rattle.lf_grammar.specs.declared.token.Token.{Token}
use Rattle.lf_grammar.specs.Expressions.{Found, first_sum, first_truth}
use Rattle.lf_grammar.specs.Fronts.{behind_word}
use Rattle.lf_grammar.specs.Places.{Context}
use Rattle.lf_grammar.specs.Typing.{Said, as_set}
use Rattle.lf_grammar.proofs.Laws.{truth-sorted, sum-sorted, set-sorted}
use Rattle.lf_texts.specs.declared.error.TextError.TheVariants as faults
use Rattle.lf_texts.specs.declared.values.When.{When}
use Rattle.lf_texts.specs.Fronts.{ended}
use Rattle.lf_texts.specs.Lists.{where_some}
use Rattle.lf_texts.specs.Reading.{Reading, ◌>>=◌, wanted, checked, Read}
use Rattle.lf_texts.specs.Values.{expression, of_sort, first_of_sort, first_nodes, nodes_in, value_in, guard_in, else_in, when_in}
use Rattle.std.proofs.Common.{ℕ, zero, suc, ◌++◌}
use Rattle.std.specs.List.{list_all}
use Rattle.lf_grammar.specs.declared.sign.Sign.{Sign}
use Rattle.lf_grammar.specs.Fronts.{behind_sign}
use Rattle.lf_texts.specs.Lists.{listed}
use Rattle.std.proofs.lemmas.Bool.{and_from, eq-eqb}
use Rattle.std.proofs.lemmas.List.Folds.{list_all-append}

-- ---- what stands before a step

pub step-inv : {A B : Type 0} {y : B} (r : Reading A) (next : A → Reading B) → (r >>= next) ≡ Ok y → (x : A) × (r ≡ Ok x) × (next x ≡ Ok y)
step-inv (Err e) next h = absurd cc
step-inv (Ok x) next h = (x, refl, h)

wanted-inv : {A : Type 0} {x : A} (o : Option A) → wanted o ≡ Ok x → o ≡ Some x
wanted-inv None h = absurd cc
wanted-inv {x = x} (Some y) h = let same : y ≡ x = cc in ap Some same

pub checked-inv : {x : Unit {0}} (so : Bool) → checked so ≡ Ok x → so ≡ true
checked-inv true h = refl
checked-inv false h = absurd cc

pub some-inv : {A B : Type 0} {y : B} (o : Option A) (absent : Reading B) (present : A → Reading B) → where_some o absent present ≡ Ok y
    → (absent ≡ Ok y) ⊎ ((x : A) × (present x ≡ Ok y))
some-inv None absent present h = inl h
some-inv (Some x) absent present h = inr (x, h)

-- ---- what stands in a row

all-push : {A : Type 0} (q : A → Bool) (xs : List A) (x : A) → list_all q xs ≡ true → q x ≡ true → list_all q (xs ++ x ∷ []) ≡ true
all-push q xs x all is = list_all-append q xs (x ∷ []) ∙ and_from (list_all q xs) (list_all q (x ∷ [])) all (and_from (q x) true is refl)

-- what holds of each that is read holds of all
module _ {A : Type 0} (item : List A → List Token → Reading (Read A)) (sign : Sign) (q : A → Bool)
    (fits : (before : List A) (ts : List Token) (x : Read A) → item before ts ≡ Ok x → q x.value ≡ true) where
  pub listed-all : (room : ℕ) (before : List A) (ts : List Token) (r : Read (List A)) → list_all q before ≡ true → listed item sign room before ts ≡ Ok r
      → list_all q r.value ≡ true
  unfolding listed
  listed-all zero before ts r are h = absurd cc
  listed-all (suc room) before ts r are h =
      let x = step-inv (item before ts)
      (λ x. where_some (behind_sign sign x.rest) (Ok (record { value = before ++ x.value ∷ []; rest = x.rest }))
      (λ next. listed item sign room (before ++ x.value ∷ []) next)) h in
      let all = all-push q before x.0.value are (fits before ts x.0 x.1) in
      elim (some-inv (behind_sign sign x.0.rest) (Ok (record { value = before ++ x.0.value ∷ []; rest = x.0.rest }))
      (λ next. listed item sign room (before ++ x.0.value ∷ []) next) x.2) [
        | inl last ↦
            let made : record { value = before ++ x.0.value ∷ []; rest = x.0.rest } ≡ r = cc in
            ap (λ (z : Read (List A)). list_all q z.value) (sym made) ∙ all
        | inr next ↦ listed-all room (before ++ x.0.value ∷ []) next.0 r all next.1
      ]

-- ---- expressions

expression-by : (so : Bool) (e f : Term) → cond so (Ok e) (Err faults.Unfit) ≡ Ok f → e ≡ f
expression-by true e f h = cc
expression-by false e f h = absurd cc

expression-inv : (e f : Term) → expression e ≡ Ok f → e ≡ f
expression-inv e f h = expression-by (nat_le (parts e) 256) e f h

same-self : (sort : Sort) → same_sort sort sort ≡ true
same-self sorts.Number = refl
same-self sorts.Truth = refl
same-self sorts.Nodes = refl
same-self (sorts.Word of) = eq-eqb of of refl

-- an expression of the sort that is wanted
record IsWanted (own : Sort) (a : Said) (e : Term) : Type 0 where
  pub same : a.term ≡ e
  pub sort : same_sort a.sort own ≡ true

wanted-by : (so : Bool) (sort : Sort) (a : Said) (e : Term) → same_sort a.sort sort ≡ so → cond so (expression a.term) (Err faults.Unfit) ≡ Ok e
    → IsWanted sort a e
wanted-by true sort a e is h = record { same = expression-inv a.term e h; sort = is }
wanted-by false sort a e is h = absurd cc

of_sort-inv : (sort : Sort) (a : Said) (e : Term) → of_sort sort a ≡ Ok e → IsWanted sort a e
of_sort-inv sort a e h = wanted-by (same_sort a.sort sort) sort a e refl h

module _ (at : Context) where
  -- a value of a sort where it stands
  abbrev is_here : Sort → Term → Bool
  is_here sort e = is_a at.definition at.scope at.within sort e

  typed : (sort : Sort) (a : Said) (e : Term) → tree_sort at.definition at.scope at.within a.term ≡ Some a.sort → IsWanted sort a e → is_here sort e ≡ true
  typed sort a e sorted found = ap (is_here sort) (sym found.same) ∙ ap (λ o. is_of o sort) sorted ∙ found.sort

  pub first-sorted : (sort : Sort) (ts : List Token) (r : Read Term) → first_of_sort at sort ts ≡ Ok r → is_here sort r.value ≡ true
  unfolding first_of_sort
  first-sorted sort ts r h =
      let x = step-inv (wanted (first_truth at ts)) (λ x. of_sort sort x.said >>= λ e. Ok (record { value = e; rest = x.rest })) h in
      let e = step-inv (of_sort sort x.0.said) (λ e. Ok (record { value = e; rest = x.0.rest })) x.2 in
      let made : record { value = e.0; rest = x.0.rest } ≡ r = cc in
      let value : e.0 ≡ r.value = ap (λ (z : Read Term). z.value) made in
      ap (is_here sort) (sym value)
      ∙ typed sort x.0.said e.0 (truth-sorted at ts x.0 (wanted-inv (first_truth at ts) x.1)) (of_sort-inv sort x.0.said e.0 e.1)

  -- a sum is of its own sort
  pub sum-here : (ts : List Token) (x : Found) (e : Term) → wanted (first_sum at ts) ≡ Ok x → expression x.said.term ≡ Ok e
      → is_here x.said.sort e ≡ true
  sum-here ts x e h is =
      typed x.said.sort x.said e (sum-sorted at ts x (wanted-inv (first_sum at ts) h))
      (record { same = expression-inv x.said.term e is; sort = same-self x.said.sort })

  pub nodes-first : (ts : List Token) (r : Read Term) → first_nodes at ts ≡ Ok r → is_here sorts.Nodes r.value ≡ true
  unfolding first_nodes
  nodes-first ts r h =
      let x = step-inv (wanted (first_sum at ts))
      (λ x. wanted (as_set x.said) >>= λ a. of_sort sorts.Nodes a >>= λ e. Ok (record { value = e; rest = x.rest })) h in
      let a = step-inv (wanted (as_set x.0.said)) (λ a. of_sort sorts.Nodes a >>= λ e. Ok (record { value = e; rest = x.0.rest })) x.2 in
      let e = step-inv (of_sort sorts.Nodes a.0) (λ e. Ok (record { value = e; rest = x.0.rest })) a.2 in
      let sorted = set-sorted at x.0.said a.0 (sum-sorted at ts x.0 (wanted-inv (first_sum at ts) x.1)) (wanted-inv (as_set x.0.said) a.1) in
      let made : record { value = e.0; rest = x.0.rest } ≡ r = cc in
      let value : e.0 ≡ r.value = ap (λ (z : Read Term). z.value) made in
      ap (is_here sorts.Nodes) (sym value) ∙ typed sorts.Nodes a.0 e.0 sorted (of_sort-inv sorts.Nodes a.0 e.0 e.1)

  pub nodes-sorted : (ts : List Token) (e : Term) → nodes_in at ts ≡ Ok e → is_here sorts.Nodes e ≡ true
  unfolding nodes_in
  nodes-sorted ts e h =
      let x = step-inv (first_nodes at ts) (λ x. ended x.rest >>= λ end. Ok x.value) h in
      let end = step-inv (ended x.0.rest) (λ end. Ok x.0.value) x.2 in
      let same : x.0.value ≡ e = cc in
      ap (is_here sorts.Nodes) (sym same) ∙ nodes-first ts x.0 x.1

  pub value-sorted : (ts : List Token) (v : Term × Sort) → value_in at ts ≡ Ok v → is_here v.1 v.0 ≡ true
  unfolding value_in
  value-sorted ts v h =
      let x = step-inv (wanted (first_truth at ts)) (λ x. ended x.rest >>= λ end. expression x.said.term >>= λ e. Ok (e, x.said.sort)) h in
      let end = step-inv (ended x.0.rest) (λ end. expression x.0.said.term >>= λ e. Ok (e, x.0.said.sort)) x.2 in
      let e = step-inv (expression x.0.said.term) (λ e. Ok (e, x.0.said.sort)) end.2 in
      let made : (e.0, x.0.said.sort) ≡ v = cc in
      ap (λ (z : Term × Sort). is_here z.1 z.0) (sym made)
      ∙ typed x.0.said.sort x.0.said e.0 (truth-sorted at ts x.0 (wanted-inv (first_truth at ts) x.1))
      (record { same = expression-inv x.0.said.term e.0 e.1; sort = same-self x.0.said.sort })

  pub guard-sorted : (ts : List Token) (e : Term) → guard_in at ts ≡ Ok e → is_here sorts.Truth e ≡ true
  unfolding guard_in
  guard-sorted ts e h =
      let x = step-inv (first_of_sort at sorts.Truth ts) (λ x. ended x.rest >>= λ end. Ok x.value) h in
      let end = step-inv (ended x.0.rest) (λ end. Ok x.0.value) x.2 in
      let same : x.0.value ≡ e = cc in
      ap (is_here sorts.Truth) (sym same) ∙ first-sorted sorts.Truth ts x.0 x.1

  else-sorted : (ts : List Token) (e : Term) → else_in at ts ≡ Ok e → is_here sorts.Truth e ≡ true
  else-sorted [] e h = let same : terms.Leaf (leaves.Truth true) ≡ e = cc in ap (is_here sorts.Truth) (sym same)
  else-sorted (t ∷ ts) e h = guard-sorted (t ∷ ts) e h

  pub when-sorted : (ts : List Token) (w : When) → when_in at ts ≡ Ok w → is_here sorts.Truth w.guard ≡ true
  unfolding when_in
  when-sorted ts w h =
      elim (some-inv (behind_word (codes "else") ts) (guard_in at ts >>= λ e. Ok (record { is_else = false; guard = e }))
      (λ rest. else_in at rest >>= λ e. Ok (record { is_else = true; guard = e })) h) [
        | inl plain ↦
            let e = step-inv (guard_in at ts) (λ e. Ok (record { is_else = false; guard = e })) plain in
            let made : record { is_else = false; guard = e.0 } ≡ w = cc in
            ap (λ (z : When). is_here sorts.Truth z.guard) (sym made) ∙ guard-sorted ts e.0 e.1
        | inr other ↦
            let e = step-inv (else_in at other.0) (λ e. Ok (record { is_else = true; guard = e })) other.1 in
            let made : record { is_else = true; guard = e.0 } ≡ w = cc in
            ap (λ (z : When). is_here sorts.Truth z.guard) (sym made) ∙ else-sorted other.0 e.0 e.1
      ]
