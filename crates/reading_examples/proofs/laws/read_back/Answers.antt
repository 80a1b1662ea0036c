use Rattle.std.proofs.Common.{◌≡◌, ℕ, List, [], codes, Result, Ok, Err, Some, Bor, IfOk, refl, sym, ap, ◌∙◌}
use Rattle.lf_rules.specs.Terms.{Term}
use Rattle.lf_rules.specs.Terms as terms
use Rattle.lf_rules.specs.Sorts.{tree_sort}
use Rattle.lf_rules.specs.declared.definition.Definition.{Definition}
use Rattle.lf_rules.specs.declared.expr.Binary.TheVariants as twos
use Rattle.lf_rules.specs.declared.expr.Leaf.{Leaf}
use Rattle.lf_rules.specs.declared.expr.Leaf.TheVariants as leaves
use Rattle.lf_rules.specs.declared.expr.Over.TheVariants as overs
use Rattle.lf_rules.specs.declared.expr.Unary.TheVariants as ones
use Rattle.lf_rules.specs.declared.sort.Scope.TheVariants as scopes
use Rattle.lf_rules.specs.declared.sort.Within.TheVariants as withins
use Rattle.lf_rules.specs.declared.sort.Sort.{Sort}
use Rattle.lf_rules.specs.declared.sort.Sort.TheVariants as sorts
use Rattle.lf_grammar.specs.declared.token_error.TokenError.{TokenError}
use Rattle.lf_grammar.specs.declared.token.Token.{Token}
use Rattle.lf_grammar.specs.Tokens.{tokens_of}
use Rattle.lf_grammar.specs.Bracketed.{bracketed, IsPlain, IsWritable}
use Rattle.lf_grammar.specs.Expressions.{Found, first_truth, found}
use Rattle.lf_grammar.specs.Places.{Context, context_of}
use Rattle.lf_grammar.specs.Readings.{said, Finds}
use Rattle.lf_grammar.specs.declared.error.Unread.{Unread}
use Rattle.lf_grammar.specs.declared.typed.Typed.{Typed}
use Rattle.reading_examples.proofs.laws.read_back.Goals as goal

-- the greatest of what is left by the number of nodes of the sums of a node and this step
abbrev greatest : Term
greatest =
    terms.Over overs.Greatest (terms.Unary ones.Only (terms.Leaf (leaves.Number 1)))
    (terms.Binary twos.Remainder (terms.Binary twos.Add (terms.Leaf leaves.It) (terms.Leaf leaves.Step)) (terms.Leaf leaves.Nodes))

abbrev name : Leaf → List ℕ
name leaves.Step = codes "t"
name leaves.It = codes "it"
name other = codes "nodes"

abbrev bare : Definition → Context
bare d = record { definition = d; fields = []; names = []; scope = scopes.Plain; within = withins.Nothing }

written : tokens_of (codes "max({1}: ((it + t) mod nodes))") ≡ Ok (bracketed name greatest)
written = refl

same_tokens : (r : Result (List Token) TokenError) (xs ys : List Token) → r ≡ Ok xs → r ≡ Ok ys → xs ≡ ys
same_tokens r xs ys a b = cc

same_said : (x y : Found) → Some x ≡ Some y → x.said ≡ y.said
same_said x y e = let is : x ≡ y = cc in ap (λ (z : Found). z.said) is

-- its tokens are the text's, and its premises hold
all_read : (d : Definition) (ts : List Token)
    → ((at : Context) (name : Leaf → List ℕ) (e : Term) (sort : Sort) → IsPlain at → IsWritable name at e
    → tree_sort at.definition at.scope at.within e ≡ Some sort → first_truth at (bracketed name e) ≡ found (record { term = e; sort = sort }) [])
    → tokens_of (codes "max({1}: ((it + t) mod nodes))") ≡ Ok ts → first_truth (bare d) ts ≡ found (record { term = greatest; sort = sorts.Number }) []
all_read d ts law is =
    let plain : IsPlain (bare d) =
    record { denial = refl; count = refl; lowest = refl; highest = refl; smaller = refl; larger = refl; majority = refl } in
    ap (first_truth (bare d)) (same_tokens _ ts (bracketed name greatest) is written)
    ∙ law (bare d) name greatest sorts.Number plain (tt, ((refl, refl, tt), refl, tt)) refl

by_result : (d : Definition) (at : Context) (ts : List Token) (result : Result (Typed × Bor (List Token)) Unread) → at ≡ bare d
    → first_truth (bare d) ts ≡ found (record { term = greatest; sort = sorts.Number }) [] → Finds (first_truth at ts) result
    → IfOk result (λ r. said r.0 ≡ record { term = greatest; sort = sorts.Number })
by_result d at ts (Ok r) is all read = same_said _ _ (sym read ∙ ap (λ x. first_truth x ts) is ∙ all)
by_result d at ts (Err e) is all read = tt

pub returns : goal.returns
returns c =
    by_result c.args.definition.now (context_of c.place-place.result) c.args.tokens.now c.read_truth.result c.place-place.ensures
    (all_read c.args.definition.now c.args.tokens.now c.bracketed_is_read_back.ensures c.requires) c.read_truth.ensures.read
