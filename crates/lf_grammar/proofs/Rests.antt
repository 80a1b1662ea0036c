-- What is left behind what is read is no longer than what was there.
use Rattle.std.proofs.Common.{◌≡◌, ℕ, zero, suc, ◌+◌, ◌<◌, ◌≤◌, Bool, true, false, List, [], ◌∷◌, length, codes, Option, Some, None, refl, sym, ap, arith}
use Rattle.std.specs.Prelude.{if◌then◌else◌}
use Rattle.std.proofs.lemmas.Option.{none-some}
use Rattle.lf_rules.specs.declared.expr.Unary.TheVariants as ones
use Rattle.lf_rules.specs.declared.expr.Over.{Over}
use Rattle.lf_rules.specs.declared.expr.Over.TheVariants as overs
use Rattle.lf_grammar.specs.declared.sign.Sign.{Sign}
use Rattle.lf_grammar.specs.declared.sign.Sign.TheVariants as signs
use Rattle.lf_grammar.specs.declared.token.Token.{Token}
use Rattle.lf_grammar.specs.declared.level.Level.{Level}
use Rattle.lf_grammar.specs.declared.level.Level.TheVariants as levels
use Rattle.lf_grammar.specs.Places.{Context, body_at}
use Rattle.lf_grammar.specs.Typing.{Said, ◌>>=◌, by_one, compared, joined, by_call, at_place, over_set, only_by, between, how_many, no_node}
use Rattle.lf_grammar.specs.Fronts.{cut, behind_word, behind_sign, behind_comparison, behind_joint, of_body, level_of, end_of, ends_item}
use Rattle.lf_grammar.specs.Expressions.{Found, found, Begin, Alone, Named, Round, Curly, Called, Nowhere, Next, All, Left, More, Right, Denied, Comparison}
use Rattle.lf_grammar.specs.Expressions.{Compared, Atom, Behind, Placed, Second, Single, Item, Range, Members, Body, cases_of, closed, begins, divisor}
use Rattle.lf_grammar.specs.Expressions.{first_divisor, read}
use Rattle.lf_grammar.proofs.Sorted.{cut-shorter, sign-shorter, word-shorter, comparison-shorter, joint-shorter}
use Rattle.lf_grammar.proofs.Typings.{some-same, step-inv}

-- one way or the other, by whether something is there
pub cases-go : {A B G : Type 0} {y : B} (o : Option A) (absent : Option B) (present : A → Option B) → cases_of o absent present ≡ Some y
    → (o ≡ None → absent ≡ Some y → G) → ((x : A) → o ≡ Some x → present x ≡ Some y → G) → G
cases-go None absent present e none some = none refl e
cases-go (Some x) absent present e none some = some x refl e

-- ---- what is left is no longer

module _ {x : Found} where
  rest-found : (a : Said) (rest : List Token) → found a rest ≡ Some x → length x.rest ≤ length rest
  rest-found a rest e = rw (sym (some-same e)) (omega arith)

  rest-made : (made : Option Said) (rest : List Token) → (made >>= λ b. found b rest) ≡ Some x → length x.rest ≤ length rest
  rest-made made rest e = let i = step-inv made (λ b. found b rest) e in rest-found i.0 rest i.2

  rest-closed : (sign : Sign) (made : Option Said) (ts : List Token) → closed sign made ts ≡ Some x → length x.rest ≤ length ts
  rest-closed sign made ts e =
      let i = step-inv (behind_sign sign ts) (λ rest. made >>= λ b. found b rest) e in
      omega (arith, rest-made made i.0 i.2, sign-shorter sign ts i.1)

  rest-divisor : (at : Context) (ts : List Token) → first_divisor at ts ≡ Some x → length x.rest ≤ length ts
  rest-divisor at ts e =
      let i = step-inv (cut ts) (λ c. divisor at c.first >>= λ a. found a c.rest) e in
      omega (arith, rest-made (divisor at i.0.first) i.0.rest i.2, cut-shorter ts i.1)

pub shorter : (at : Context) (n : ℕ) (next : Next) (ts : List Token) (x : Found) → read at n next ts ≡ Some x → length x.rest ≤ length ts
unfolding read
shorter at zero next ts x e = absurd (none-some _ e)
shorter at (suc n) (All level) ts x e =
    let i = step-inv (read at n (Left level) ts) (λ y. read at n (More level y.said) y.rest) e in
    omega (arith, shorter at n (Left level) ts i.0 i.1, shorter at n (More level i.0.said) i.0.rest x i.2)
shorter at (suc n) (Left levels.Items) ts x e = shorter at n Item ts x e
shorter at (suc n) (Left levels.Or) ts x e = shorter at n (All levels.And) ts x e
shorter at (suc n) (Left levels.And) ts x e = shorter at n Denied ts x e
shorter at (suc n) (Left levels.Sum) ts x e = shorter at n (All levels.Term) ts x e
shorter at (suc n) (Left levels.Term) ts x e = shorter at n Atom ts x e
shorter at (suc n) (More level a) ts x e =
    cases-go (behind_joint level ts) (found a ts)
    (λ j. read at n (Right level) j.rest >>= λ y. joined j.by a y.said >>= λ b. read at n (More level b) y.rest) e
    (λ none same. rest-found a ts same)
    (λ j is f.
    let i = step-inv (read at n (Right level) j.rest) (λ y. joined j.by a y.said >>= λ b. read at n (More level b) y.rest) f in
    let k = step-inv (joined j.by a i.0.said) (λ b. read at n (More level b) i.0.rest) i.2 in
    omega (arith, joint-shorter level ts is, shorter at n (Right level) j.rest i.0 i.1, shorter at n (More level k.0) i.0.rest x k.2))
shorter at (suc n) (Right levels.Term) ts x e = rest-divisor at ts e
shorter at (suc n) (Right levels.Items) ts x e = shorter at n (Left levels.Items) ts x e
shorter at (suc n) (Right levels.Or) ts x e = shorter at n (Left levels.Or) ts x e
shorter at (suc n) (Right levels.And) ts x e = shorter at n (Left levels.And) ts x e
shorter at (suc n) (Right levels.Sum) ts x e = shorter at n (Left levels.Sum) ts x e
shorter at (suc n) Denied ts x e =
    cases-go (behind_word (codes "not") ts) (read at n Comparison ts)
    (λ after. read at n Denied after >>= λ y. by_one ones.Not y.said >>= λ b. found b y.rest) e
    (λ none same. shorter at n Comparison ts x same)
    (λ after is f.
    let i = step-inv (read at n Denied after) (λ y. by_one ones.Not y.said >>= λ b. found b y.rest) f in
    omega (arith, word-shorter (codes "not") ts is, shorter at n Denied after i.0 i.1, rest-made (by_one ones.Not i.0.said) i.0.rest i.2))
shorter at (suc n) Comparison ts x e =
    let i = step-inv (read at n (All levels.Sum) ts) (λ y. read at n (Compared y.said) y.rest) e in
    omega (arith, shorter at n (All levels.Sum) ts i.0 i.1, shorter at n (Compared i.0.said) i.0.rest x i.2)
shorter at (suc n) (Compared a) ts x e =
    cases-go (behind_comparison ts) (found a ts)
    (λ c. read at n (All levels.Sum) c.rest >>= λ y. compared c.first a y.said >>= λ b. found b y.rest) e
    (λ none same. rest-found a ts same)
    (λ c is f.
    let i = step-inv (read at n (All levels.Sum) c.rest) (λ y. compared c.first a y.said >>= λ b. found b y.rest) f in
    omega (arith, comparison-shorter ts is, shorter at n (All levels.Sum) c.rest i.0 i.1, rest-made (compared c.first a i.0.said) i.0.rest i.2))
shorter at (suc n) Atom ts x e =
    let i = step-inv (cut ts) (λ c. read at n (Behind (begins at c.first)) c.rest) e in
    omega (arith, cut-shorter ts i.1, shorter at n (Behind (begins at i.0.first)) i.0.rest x i.2)
shorter at (suc n) (Behind (Alone a)) ts x e = rest-found a ts e
shorter at (suc n) (Behind Round) ts x e =
    let i = step-inv (read at n (All levels.Or) ts) (λ y. closed signs.CloseRound (Some y.said) y.rest) e in
    omega (arith, shorter at n (All levels.Or) ts i.0 i.1, rest-closed signs.CloseRound (Some i.0.said) i.0.rest i.2)
shorter at (suc n) (Behind (Named alone row)) ts x e =
    cases-go (behind_sign signs.OpenSquare ts) (alone >>= λ a. found a ts) (λ after. row >>= λ r. read at n (Placed r) after) e
    (λ none f. rest-made alone ts f)
    (λ after is f.
    let i = step-inv row (λ r. read at n (Placed r) after) f in
    omega (arith, sign-shorter signs.OpenSquare ts is, shorter at n (Placed i.0) after x i.2))
shorter at (suc n) (Behind Curly) ts x e =
    cases-go (behind_sign signs.CloseCurly ts) (read at n (All levels.Sum) ts >>= λ y. read at n (Members y.said) y.rest) (λ rest. found no_node rest) e
    (λ none f.
    let i = step-inv (read at n (All levels.Sum) ts) (λ y. read at n (Members y.said) y.rest) f in
    omega (arith, shorter at n (All levels.Sum) ts i.0 i.1, shorter at n (Members i.0.said) i.0.rest x i.2))
    (λ rest is f. omega (arith, sign-shorter signs.CloseCurly ts is, rest-found no_node rest f))
shorter at (suc n) (Behind (Called call)) ts x e =
    let i = step-inv (behind_sign signs.OpenRound ts) (λ inner. read at n (All levels.Sum) inner >>= λ y. read at n (Second call y.said) y.rest) e in
    let k = step-inv (read at n (All levels.Sum) i.0) (λ y. read at n (Second call y.said) y.rest) i.2 in
    omega (arith, sign-shorter signs.OpenRound ts i.1, shorter at n (All levels.Sum) i.0 k.0 k.1, shorter at n (Second call k.0.said) k.0.rest x k.2)
shorter at (suc n) (Behind Nowhere) ts x e = absurd (none-some _ e)
shorter at (suc n) (Second call a) ts x e =
    cases-go (behind_sign signs.Comma ts) (read at n (Single call a) ts)
    (λ after. read at n (All levels.Sum) after >>= λ y. closed signs.CloseRound (by_call call a (Some y.said)) y.rest) e
    (λ none f. shorter at n (Single call a) ts x f)
    (λ after is f.
    let i = step-inv (read at n (All levels.Sum) after) (λ y. closed signs.CloseRound (by_call call a (Some y.said)) y.rest) f in
    omega (
      arith,
      sign-shorter signs.Comma ts is,
      shorter at n (All levels.Sum) after i.0 i.1,
      rest-closed signs.CloseRound (by_call call a (Some i.0.said)) i.0.rest i.2,
    ))
shorter at (suc n) (Placed row) ts x e =
    let i = step-inv (read at n (All levels.Sum) ts) (λ y. closed signs.CloseSquare (at_place at.definition at.scope row y.said) y.rest) e in
    omega (arith, shorter at n (All levels.Sum) ts i.0 i.1, rest-closed signs.CloseSquare (at_place at.definition at.scope row i.0.said) i.0.rest i.2)
shorter at (suc n) (Single call a) ts x e =
    cases-go (behind_sign signs.Colon ts) (closed signs.CloseRound (by_call call a None) ts) (λ after. of_body call >>= λ op. read at n (Body op a) after) e
    (λ none f. rest-closed signs.CloseRound (by_call call a None) ts f)
    (λ after is f.
    let i = step-inv (of_body call) (λ op. read at n (Body op a) after) f in
    omega (arith, sign-shorter signs.Colon ts is, shorter at n (Body i.0 a) after x i.2))
shorter at (suc n) (Members a) ts x e =
    cases-go (behind_word (codes "where") ts)
    (read at n (Range a) ts >>= λ y. read at n (More levels.Items y.said) y.rest >>= λ z. closed signs.CloseCurly (Some z.said) z.rest)
    (λ after. read at n (Body overs.Those a) after) e
    (λ none f.
    let i = step-inv (read at n (Range a) ts) (λ y. read at n (More levels.Items y.said) y.rest >>= λ z. closed signs.CloseCurly (Some z.said) z.rest) f in
    let k = step-inv (read at n (More levels.Items i.0.said) i.0.rest) (λ z. closed signs.CloseCurly (Some z.said) z.rest) i.2 in
    omega (
      arith,
      shorter at n (Range a) ts i.0 i.1,
      shorter at n (More levels.Items i.0.said) i.0.rest k.0 k.1,
      rest-closed signs.CloseCurly (Some k.0.said) k.0.rest k.2,
    ))
    (λ after is f. omega (arith, word-shorter (codes "where") ts is, shorter at n (Body overs.Those a) after x f))
shorter at (suc n) (Body op a) ts x e =
    let i = step-inv (body_at at) (λ inner. read inner n (All (level_of op)) ts >>= λ y. closed (end_of op) (over_set op a y.said) y.rest) e in
    let k = step-inv (read i.0 n (All (level_of op)) ts) (λ y. closed (end_of op) (over_set op a y.said) y.rest) i.2 in
    omega (arith, shorter i.0 n (All (level_of op)) ts k.0 k.1, rest-closed (end_of op) (over_set op a k.0.said) k.0.rest k.2)
shorter at (suc n) Item ts x e =
    let i = step-inv (read at n (All levels.Sum) ts) (λ y. read at n (Range y.said) y.rest) e in
    omega (arith, shorter at n (All levels.Sum) ts i.0 i.1, shorter at n (Range i.0.said) i.0.rest x i.2)
shorter at (suc n) (Range a) ts x e =
    cases-go (behind_sign signs.To ts) (only_by a.sort a >>= λ b. found b ts)
    (λ after. if ends_item after then (between a how_many >>= λ b. found b after)
    else (read at n (All levels.Sum) after >>= λ y. between a y.said >>= λ b. found b y.rest)) e
    (λ none f. rest-made (only_by a.sort a) ts f)
    (λ after is f. omega (arith, sign-shorter signs.To ts is, behind (ends_item after) after (shorter at n (All levels.Sum) after) f))
  where
    behind : (ends : Bool) (after : List Token) → ((y : Found) → read at n (All levels.Sum) after ≡ Some y → length y.rest ≤ length after)
        → (if ends then (between a how_many >>= λ b. found b after)
        else (read at n (All levels.Sum) after >>= λ y. between a y.said >>= λ b. found b y.rest)) ≡ Some x
        → length x.rest ≤ length after
    behind true after sum f = rest-made (between a how_many) after f
    behind false after sum f =
        let i = step-inv (read at n (All levels.Sum) after) (λ y. between a y.said >>= λ b. found b y.rest) f in
        omega (arith, sum i.0 i.1, rest-made (between a i.0.said) i.0.rest i.2)
