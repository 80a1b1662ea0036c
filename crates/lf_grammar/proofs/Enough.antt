-- Each number of steps that is enough reads the same.
use Rattle.std.proofs.Common.{◌≡◌, ℕ, zero, suc, ◌+◌, ◌*◌, ◌<◌, ◌≤◌, Bool, true, false, List, [], ◌∷◌, length, codes}
use Rattle.std.proofs.Common.{Option, Some, None, refl, sym, ap, ◌∙◌, arith}
use Rattle.std.specs.Prelude.{if◌then◌else◌}
use Rattle.lf_rules.specs.declared.expr.Unary.TheVariants as ones
use Rattle.lf_rules.specs.declared.expr.Over.{Over}
use Rattle.lf_rules.specs.declared.expr.Over.TheVariants as overs
use Rattle.lf_grammar.specs.declared.sign.Sign.{Sign}
use Rattle.lf_grammar.specs.declared.sign.Sign.TheVariants as signs
use Rattle.lf_grammar.specs.declared.token.Token.{Token}
use Rattle.lf_grammar.specs.declared.level.Level.{Level}
use Rattle.lf_grammar.specs.declared.level.Level.TheVariants as levels
use Rattle.lf_grammar.specs.Places.{Context, body_at}
use Rattle.lf_grammar.specs.Typing.{Said, ◌>>=◌, by_one, compared, joined, by_call, at_place, over_set, only_by, between, how_many, no_node}
use Rattle.lf_grammar.specs.Fronts.{cut, behind_word, behind_sign, behind_comparison, behind_joint, of_body, level_of, end_of, ends_item}
use Rattle.lf_grammar.specs.Expressions.{Found, found, Alone, Named, Round, Curly, Called, Nowhere, Next, All, Left, More, Right, Denied, Comparison}
use Rattle.lf_grammar.specs.Expressions.{Compared, Atom, Behind, Placed, Second, Single, Item, Range, Members, Body, cases_of, closed, begins, read, steps}
use Rattle.lf_grammar.specs.Expressions.{all_depth, left_depth}
use Rattle.lf_grammar.proofs.Rests.{shorter}
use Rattle.lf_grammar.proofs.Sorted.{cut-shorter, sign-shorter, word-shorter, comparison-shorter, joint-shorter}

-- two steps are the same, where they go on alike
pub step-same : {A B : Type 0} {o p : Option A} {f g : A → Option B} → o ≡ p → ((x : A) → p ≡ Some x → f x ≡ g x) → (o >>= f) ≡ (p >>= g)
step-same {A} {B} {o} {p} {f} {g} e h = ap (λ o. o >>= f) e ∙ go p h
  where
    go : (q : Option A) → ((x : A) → q ≡ Some x → f x ≡ g x) → (q >>= f) ≡ (q >>= g)
    go None k = refl
    go (Some x) k = k x refl

pub cases-same : {A B : Type 0} (o : Option A) {a b : Option B} {f g : A → Option B} → (o ≡ None → a ≡ b) → ((x : A) → o ≡ Some x → f x ≡ g x)
    → cases_of o a f ≡ cases_of o b g
cases-same None none some = none refl
cases-same (Some x) none some = some x refl

left-below : (level : Level) → suc (left_depth level) ≤ all_depth level
left-below levels.Items = omega arith
left-below levels.Or = omega arith
left-below levels.And = omega arith
left-below levels.Sum = omega arith
left-below levels.Term = omega arith

left-high : (level : Level) → 4 ≤ left_depth level
left-high levels.Items = omega arith
left-high levels.Or = omega arith
left-high levels.And = omega arith
left-high levels.Sum = omega arith
left-high levels.Term = omega arith

body-below : (op : Over) → all_depth (level_of op) ≤ 13
body-below overs.Those = omega arith
body-below overs.Least = omega arith
body-below overs.Greatest = omega arith

one-more : (at : Context) (n : ℕ) (next : Next) (ts : List Token) → steps next ts < n → read at (suc n) next ts ≡ read at n next ts
unfolding read
one-more at zero next ts h = absurd (omega (arith, h))
one-more at (suc n) (All level) ts h =
    step-same (one-more at n (Left level) ts (omega (arith, h, left-below level)))
    (λ x is. one-more at n (More level x.said) x.rest (omega (arith, h, left-below level, left-high level, shorter at n (Left level) ts x is)))
one-more at (suc n) (Left levels.Items) ts h = one-more at n Item ts (omega (arith, h))
one-more at (suc n) (Left levels.Or) ts h = one-more at n (All levels.And) ts (omega (arith, h))
one-more at (suc n) (Left levels.And) ts h = one-more at n Denied ts (omega (arith, h))
one-more at (suc n) (Left levels.Sum) ts h = one-more at n (All levels.Term) ts (omega (arith, h))
one-more at (suc n) (Left levels.Term) ts h = one-more at n Atom ts (omega (arith, h))
one-more at (suc n) (More level a) ts h =
    cases-same (behind_joint level ts) (λ none. refl)
    (λ j is. step-same (one-more at n (Right level) j.rest (omega (arith, h, joint-shorter level ts is)))
    (λ x read. step-same {o = joined j.by a x.said} refl
    (λ b made. one-more at n (More level b) x.rest (omega (arith, h, joint-shorter level ts is, shorter at n (Right level) j.rest x read)))))
one-more at (suc n) (Right levels.Term) ts h = refl
one-more at (suc n) (Right levels.Items) ts h = one-more at n (Left levels.Items) ts (omega (arith, h))
one-more at (suc n) (Right levels.Or) ts h = one-more at n (Left levels.Or) ts (omega (arith, h))
one-more at (suc n) (Right levels.And) ts h = one-more at n (Left levels.And) ts (omega (arith, h))
one-more at (suc n) (Right levels.Sum) ts h = one-more at n (Left levels.Sum) ts (omega (arith, h))
one-more at (suc n) Denied ts h =
    cases-same (behind_word (codes "not") ts) (λ none. one-more at n Comparison ts (omega (arith, h)))
    (λ after is. step-same (one-more at n Denied after (omega (arith, h, word-shorter (codes "not") ts is))) (λ x read. refl))
one-more at (suc n) Comparison ts h =
    step-same (one-more at n (All levels.Sum) ts (omega (arith, h)))
    (λ x is. one-more at n (Compared x.said) x.rest (omega (arith, h, shorter at n (All levels.Sum) ts x is)))
one-more at (suc n) (Compared a) ts h =
    cases-same (behind_comparison ts) (λ none. refl)
    (λ c is. step-same (one-more at n (All levels.Sum) c.rest (omega (arith, h, comparison-shorter ts is))) (λ x read. refl))
one-more at (suc n) Atom ts h =
    step-same {o = cut ts} refl (λ c is. one-more at n (Behind (begins at c.first)) c.rest (omega (arith, h, cut-shorter ts is)))
one-more at (suc n) (Behind (Alone a)) ts h = refl
one-more at (suc n) (Behind Round) ts h = step-same (one-more at n (All levels.Or) ts (omega (arith, h))) (λ x read. refl)
one-more at (suc n) (Behind (Named alone row)) ts h =
    cases-same (behind_sign signs.OpenSquare ts) (λ none. refl)
    (λ after is. step-same {o = row} refl (λ r some. one-more at n (Placed r) after (omega (arith, h, sign-shorter signs.OpenSquare ts is))))
one-more at (suc n) (Behind Curly) ts h =
    cases-same (behind_sign signs.CloseCurly ts)
    (λ none. step-same (one-more at n (All levels.Sum) ts (omega (arith, h)))
    (λ x read. one-more at n (Members x.said) x.rest (omega (arith, h, shorter at n (All levels.Sum) ts x read)))) (λ rest is. refl)
one-more at (suc n) (Behind (Called call)) ts h =
    step-same {o = behind_sign signs.OpenRound ts} refl
    (λ inner is. step-same (one-more at n (All levels.Sum) inner (omega (arith, h, sign-shorter signs.OpenRound ts is)))
    (λ x read. one-more at n (Second call x.said) x.rest
    (omega (arith, h, sign-shorter signs.OpenRound ts is, shorter at n (All levels.Sum) inner x read))))
one-more at (suc n) (Behind Nowhere) ts h = refl
one-more at (suc n) (Second call a) ts h =
    cases-same (behind_sign signs.Comma ts) (λ none. one-more at n (Single call a) ts (omega (arith, h)))
    (λ after is. step-same (one-more at n (All levels.Sum) after (omega (arith, h, sign-shorter signs.Comma ts is))) (λ x read. refl))
one-more at (suc n) (Placed row) ts h = step-same (one-more at n (All levels.Sum) ts (omega (arith, h))) (λ x read. refl)
one-more at (suc n) (Single call a) ts h =
    cases-same (behind_sign signs.Colon ts) (λ none. refl)
    (λ after is. step-same {o = of_body call} refl (λ op some. one-more at n (Body op a) after (omega (arith, h, sign-shorter signs.Colon ts is))))
one-more at (suc n) (Members a) ts h =
    cases-same (behind_word (codes "where") ts)
    (λ none. step-same (one-more at n (Range a) ts (omega (arith, h)))
    (λ x read. step-same (one-more at n (More levels.Items x.said) x.rest (omega (arith, h, shorter at n (Range a) ts x read))) (λ y more. refl)))
    (λ after is. one-more at n (Body overs.Those a) after (omega (arith, h, word-shorter (codes "where") ts is)))
one-more at (suc n) (Body op a) ts h =
    step-same {o = body_at at} refl
    (λ inner is. step-same (one-more inner n (All (level_of op)) ts (omega (arith, h, body-below op))) (λ x read. refl))
one-more at (suc n) Item ts h =
    step-same (one-more at n (All levels.Sum) ts (omega (arith, h)))
    (λ x is. one-more at n (Range x.said) x.rest (omega (arith, h, shorter at n (All levels.Sum) ts x is)))
one-more at (suc n) (Range a) ts h =
    cases-same (behind_sign signs.To ts) (λ none. refl)
    (λ after is. behind (ends_item after) after (one-more at n (All levels.Sum) after (omega (arith, h, sign-shorter signs.To ts is))))
  where
    behind : (ends : Bool) (after : List Token) → read at (suc n) (All levels.Sum) after ≡ read at n (All levels.Sum) after
        → (if ends then (between a how_many >>= λ b. found b after)
        else (read at (suc n) (All levels.Sum) after >>= λ y. between a y.said >>= λ b. found b y.rest))
        ≡ (if ends then (between a how_many >>= λ b. found b after)
        else (read at n (All levels.Sum) after >>= λ y. between a y.said >>= λ b. found b y.rest))
    behind true after same = refl
    behind false after same = step-same same (λ y read. refl)

module _ (at : Context) where
  many-more : (k n : ℕ) (next : Next) (ts : List Token) → steps next ts < n → read at (k + n) next ts ≡ read at n next ts
  many-more zero n next ts h = let none : zero + n ≡ n = omega arith in ap (λ m. read at m next ts) none
  many-more (suc k) n next ts h =
      let one : suc k + n ≡ suc (k + n) = omega arith in
      ap (λ m. read at m next ts) one ∙ one-more at (k + n) next ts (omega (arith, h)) ∙ many-more k n next ts h

  -- each number of steps that is enough reads the same
  pub enough-same : (m n : ℕ) (next : Next) (ts : List Token) → steps next ts < m → steps next ts < n → read at m next ts ≡ read at n next ts
  enough-same m n next ts g h =
      let turned : n + m ≡ m + n = omega arith in
      sym (many-more n m next ts g) ∙ ap (λ k. read at k next ts) turned ∙ many-more m n next ts h
