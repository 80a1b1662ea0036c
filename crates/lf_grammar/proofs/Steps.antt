-- The grammar, a step at a time: what is read, once what it is made of is read.
use Rattle.std.proofs.Common.{◌≡◌, ℕ, zero, suc, ◌<◌, ◌≤◌, true, false, List, [], ◌∷◌, length, codes, Option, Some, None, Ok, Err, Result, refl, ap, ◌∙◌, arith}
use Rattle.std.specs.Borrow.{Bor}
use Rattle.lf_rules.specs.Sorts.{leaf_sort}
use Rattle.lf_rules.specs.Terms as terms
use Rattle.lf_rules.specs.declared.expr.Leaf.{Leaf}
use Rattle.lf_rules.specs.declared.sort.Sort.{Sort}
use Rattle.lf_rules.specs.declared.expr.Unary.TheVariants as ones
use Rattle.lf_rules.specs.declared.expr.Row.{Row}
use Rattle.lf_rules.specs.declared.expr.Over.{Over}
use Rattle.lf_rules.specs.declared.expr.Over.TheVariants as overs
use Rattle.lf_grammar.specs.declared.sign.Sign.{Sign}
use Rattle.lf_grammar.specs.declared.sign.Sign.TheVariants as signs
use Rattle.lf_grammar.specs.declared.token.Token.{Token}
use Rattle.lf_grammar.specs.declared.typed.Typed.{Typed}
use Rattle.lf_grammar.specs.declared.error.Unread.{Unread}
use Rattle.lf_grammar.specs.declared.level.Level.{Level}
use Rattle.lf_grammar.specs.declared.level.Level.TheVariants as levels
use Rattle.lf_grammar.specs.declared.calls.Call.{Call}
use Rattle.lf_grammar.specs.Places.{Context, body_at, row_of}
use Rattle.lf_grammar.specs.Typing.{Said, ◌>>=◌, typed, by_one, compared, joined, by_call, at_place, over_set, only_by, between, how_many, no_node}
use Rattle.lf_grammar.specs.Fronts.{Cut, Joined, behind_word, behind_sign, behind_comparison, behind_joint, ends_item, called, of_body, level_of, end_of}
use Rattle.lf_grammar.specs.Expressions.{Found, found, Alone, Named, Round, Curly, Called, Nowhere, Next, All, Left, More, Right, Denied, Comparison, Compared}
use Rattle.lf_grammar.specs.Expressions.{Atom, Behind, Placed, Second, Single, Item, Range, Members, Body, cases_of, closed, begins, begins_sign, begins_word}
use Rattle.lf_grammar.specs.Expressions.{read, all_depth}
use Rattle.lf_grammar.specs.Expressions.{left_depth, steps, first_divisor}
use Rattle.lf_grammar.specs.Readings.{IsRead, Reads, Finds}

-- ---- one step after another, where something is there or isn't

pub then-some : {A B : Type 0} {o : Option A} {x : A} {p : Option B} (next : A → Option B) → o ≡ Some x → next x ≡ p → (o >>= next) ≡ p
then-some next e f = ap (λ o. o >>= next) e ∙ f

pub then-none : {A B : Type 0} {o : Option A} (next : A → Option B) → o ≡ None → (o >>= next) ≡ None
then-none next e = ap (λ o. o >>= next) e

pub case-some : {A B : Type 0} {o : Option A} {x : A} {p : Option B} (absent : Option B) (present : A → Option B) → o ≡ Some x → present x ≡ p
    → cases_of o absent present ≡ p
case-some absent present e f = ap (λ o. cases_of o absent present) e ∙ f

pub case-none : {A B : Type 0} {o : Option A} {p : Option B} (absent : Option B) (present : A → Option B) → o ≡ None → absent ≡ p
    → cases_of o absent present ≡ p
case-none absent present e f = ap (λ o. cases_of o absent present) e ∙ f

-- ---- steps

-- what is read with one step more than are needed
pub step : {at : Context} {next : Next} {ts : List Token} {o : Option Found} → ((m : ℕ) → steps next ts ≤ m → read at (suc m) next ts ≡ o)
    → IsRead at next ts o
step {at} {next} {ts} {o} f = record { runs = go }
  where
    go : (n : ℕ) → steps next ts < n → read at n next ts ≡ o
    go zero h = absurd (omega (arith, h))
    go (suc m) h = f m (omega (arith, h))

left-below : (level : Level) → all_depth level ≡ suc (left_depth level)
left-below levels.Items = refl
left-below levels.Or = refl
left-below levels.And = refl
left-below levels.Sum = refl
left-below levels.Term = refl

left-high : (level : Level) → 4 ≤ left_depth level
left-high levels.Items = omega arith
left-high levels.Or = omega arith
left-high levels.And = omega arith
left-high levels.Sum = omega arith
left-high levels.Term = omega arith

left-low : (level : Level) → left_depth level ≤ 15
left-low levels.Items = omega arith
left-low levels.Or = omega arith
left-low levels.And = omega arith
left-low levels.Sum = omega arith
left-low levels.Term = omega arith

body-below : (op : Over) → all_depth (level_of op) ≤ 13
body-below overs.Those = omega arith
body-below overs.Least = omega arith
body-below overs.Greatest = omega arith

module _ {at : Context} where
  -- what is done with a call's answer is done with what it reads
  pub onward : {from to : Next} {us ts : List Token} → ((o : Option Found) → IsRead at from us o → IsRead at to ts o)
      → (result : Result (Typed × Bor (List Token)) Unread) → Reads at from us result → Reads at to ts result
  onward f (Ok r) h = f _ h
  onward f (Err e) h = λ known. f _ (h known)

  -- operands
  pub all-more : {level : Level} {ts : List Token} {x : Found} {o : Option Found} → IsRead at (Left level) ts (Some x) → length x.rest ≤ length ts
      → IsRead at (More level x.said) x.rest o → IsRead at (All level) ts o
  unfolding read
  all-more {level} a s b = step (λ m h. then-some _ (a.runs m (omega (arith, h, left-below level)))
      (b.runs m (omega (arith, h, s, left-below level, left-high level))))

  pub all-none : {level : Level} {ts : List Token} → IsRead at (Left level) ts None → IsRead at (All level) ts None
  unfolding read
  all-none {level} a = step (λ m h. then-none _ (a.runs m (omega (arith, h, left-below level))))

  pub left-items : {ts : List Token} {o : Option Found} → IsRead at Item ts o → IsRead at (Left levels.Items) ts o
  unfolding read
  left-items a = step (λ m h. a.runs m (omega (arith, h)))

  pub left-or : {ts : List Token} {o : Option Found} → IsRead at (All levels.And) ts o → IsRead at (Left levels.Or) ts o
  unfolding read
  left-or a = step (λ m h. a.runs m (omega (arith, h)))

  pub left-and : {ts : List Token} {o : Option Found} → IsRead at Denied ts o → IsRead at (Left levels.And) ts o
  unfolding read
  left-and a = step (λ m h. a.runs m (omega (arith, h)))

  pub left-sum : {ts : List Token} {o : Option Found} → IsRead at (All levels.Term) ts o → IsRead at (Left levels.Sum) ts o
  unfolding read
  left-sum a = step (λ m h. a.runs m (omega (arith, h)))

  pub left-term : {ts : List Token} {o : Option Found} → IsRead at Atom ts o → IsRead at (Left levels.Term) ts o
  unfolding read
  left-term a = step (λ m h. a.runs m (omega (arith, h)))

  -- how operands go on
  pub more-end : {level : Level} {a : Said} {ts : List Token} → behind_joint level ts ≡ None → IsRead at (More level a) ts (found a ts)
  unfolding read
  more-end e = step (λ m h. case-none _ _ e refl)

  pub more-none : {level : Level} {a : Said} {ts : List Token} {j : Joined} → behind_joint level ts ≡ Some j → length j.rest < length ts
      → IsRead at (Right level) j.rest None → IsRead at (More level a) ts None
  unfolding read
  more-none e s b = step (λ m h. case-some _ _ e (then-none _ (b.runs m (omega (arith, h, s)))))

  pub more-unfit : {level : Level} {a : Said} {ts : List Token} {j : Joined} {x : Found} → behind_joint level ts ≡ Some j → length j.rest < length ts
      → IsRead at (Right level) j.rest (Some x) → joined j.by a x.said ≡ None → IsRead at (More level a) ts None
  unfolding read
  more-unfit e s b f = step (λ m h. case-some _ _ e (then-some _ (b.runs m (omega (arith, h, s))) (then-none _ f)))

  pub more-more : {level : Level} {a c : Said} {ts : List Token} {j : Joined} {x : Found} {o : Option Found} → behind_joint level ts ≡ Some j
      → length j.rest < length ts
      → IsRead at (Right level) j.rest (Some x) → length x.rest ≤ length j.rest → joined j.by a x.said ≡ Some c
      → IsRead at (More level c) x.rest o → IsRead at (More level a) ts o
  unfolding read
  more-more e s b t f g =
      step (λ m h. case-some _ _ e (then-some _ (b.runs m (omega (arith, h, s))) (then-some _ f (g.runs m (omega (arith, h, s, t))))))

  pub right-term : {ts : List Token} {o : Option Found} → first_divisor at ts ≡ o → IsRead at (Right levels.Term) ts o
  unfolding read
  right-term e = step (λ m h. e)

  pub right-items : {ts : List Token} {o : Option Found} → IsRead at (Left levels.Items) ts o → IsRead at (Right levels.Items) ts o
  unfolding read
  right-items a = step (λ m h. a.runs m (omega (arith, h)))

  pub right-or : {ts : List Token} {o : Option Found} → IsRead at (Left levels.Or) ts o → IsRead at (Right levels.Or) ts o
  unfolding read
  right-or a = step (λ m h. a.runs m (omega (arith, h)))

  pub right-and : {ts : List Token} {o : Option Found} → IsRead at (Left levels.And) ts o → IsRead at (Right levels.And) ts o
  unfolding read
  right-and a = step (λ m h. a.runs m (omega (arith, h)))

  pub right-sum : {ts : List Token} {o : Option Found} → IsRead at (Left levels.Sum) ts o → IsRead at (Right levels.Sum) ts o
  unfolding read
  right-sum a = step (λ m h. a.runs m (omega (arith, h)))

  pub right-left : {ts : List Token} {o : Option Found} (level : Level) → (level ≡ levels.Term → ⊥) → IsRead at (Left level) ts o
      → IsRead at (Right level) ts o
  right-left levels.Items other a = right-items a
  right-left levels.Or other a = right-or a
  right-left levels.And other a = right-and a
  right-left levels.Sum other a = right-sum a
  right-left levels.Term other a = absurd (other refl)

  -- `not`, and comparisons
  pub denied-not : {ts : List Token} {o : Option Found} → behind_word (codes "not") ts ≡ None → IsRead at Comparison ts o → IsRead at Denied ts o
  unfolding read
  denied-not e a = step (λ m h. case-none _ _ e (a.runs m (omega (arith, h))))

  pub denied-none : {ts after : List Token} → behind_word (codes "not") ts ≡ Some after → length after < length ts → IsRead at Denied after None
      → IsRead at Denied ts None
  unfolding read
  denied-none e s a = step (λ m h. case-some _ _ e (then-none _ (a.runs m (omega (arith, h, s)))))

  pub denied-by : {ts after : List Token} {x : Found} {c : Option Said} → behind_word (codes "not") ts ≡ Some after → length after < length ts
      → IsRead at Denied after (Some x) → by_one ones.Not x.said ≡ c → IsRead at Denied ts (c >>= λ b. found b x.rest)
  unfolding read
  denied-by {x = x} e s a f = step (λ m h. case-some _ _ e (then-some _ (a.runs m (omega (arith, h, s))) (ap (λ c. c >>= λ b. found b x.rest) f)))

  pub comparison-more : {ts : List Token} {x : Found} {o : Option Found} → IsRead at (All levels.Sum) ts (Some x) → length x.rest ≤ length ts
      → IsRead at (Compared x.said) x.rest o → IsRead at Comparison ts o
  unfolding read
  comparison-more a s b = step (λ m h. then-some _ (a.runs m (omega (arith, h))) (b.runs m (omega (arith, h, s))))

  pub comparison-none : {ts : List Token} → IsRead at (All levels.Sum) ts None → IsRead at Comparison ts None
  unfolding read
  comparison-none a = step (λ m h. then-none _ (a.runs m (omega (arith, h))))

  pub compared-end : {a : Said} {ts : List Token} → behind_comparison ts ≡ None → IsRead at (Compared a) ts (found a ts)
  unfolding read
  compared-end e = step (λ m h. case-none _ _ e refl)

  pub compared-none : {a : Said} {ts : List Token} {c : Cut} → behind_comparison ts ≡ Some c → length c.rest < length ts
      → IsRead at (All levels.Sum) c.rest None → IsRead at (Compared a) ts None
  unfolding read
  compared-none e s b = step (λ m h. case-some _ _ e (then-none _ (b.runs m (omega (arith, h, s)))))

  pub compared-by : {a : Said} {ts : List Token} {c : Cut} {x : Found} {p : Option Said} → behind_comparison ts ≡ Some c → length c.rest < length ts
      → IsRead at (All levels.Sum) c.rest (Some x) → compared c.first a x.said ≡ p → IsRead at (Compared a) ts (p >>= λ b. found b x.rest)
  unfolding read
  compared-by {x = x} e s b f = step (λ m h. case-some _ _ e (then-some _ (b.runs m (omega (arith, h, s))) (ap (λ p. p >>= λ b. found b x.rest) f)))

  -- atoms
  pub atom-none : IsRead at Atom [] None
  unfolding read
  atom-none = step (λ m h. refl)

  pub atom-by : {t : Token} {ts : List Token} {o : Option Found} → IsRead at (Behind (begins at t)) ts o → IsRead at Atom (t ∷ ts) o
  unfolding read
  atom-by a = step (λ m h. a.runs m (omega (arith, h)))

  pub alone-by : {a : Said} {ts : List Token} → IsRead at (Behind (Alone a)) ts (found a ts)
  unfolding read
  alone-by = step (λ m h. refl)

  pub nowhere-by : {ts : List Token} → IsRead at (Behind Nowhere) ts None
  unfolding read
  nowhere-by = step (λ m h. refl)

  pub round-none : {ts : List Token} → IsRead at (All levels.Or) ts None → IsRead at (Behind Round) ts None
  unfolding read
  round-none a = step (λ m h. then-none _ (a.runs m (omega (arith, h))))

  pub round-by : {ts : List Token} {x : Found} {o : Option Found} → IsRead at (All levels.Or) ts (Some x) → closed signs.CloseRound (Some x.said) x.rest ≡ o
      → IsRead at (Behind Round) ts o
  unfolding read
  round-by a e = step (λ m h. then-some _ (a.runs m (omega (arith, h))) e)

  pub curly-empty : {ts rest : List Token} → behind_sign signs.CloseCurly ts ≡ Some rest → IsRead at (Behind Curly) ts (found no_node rest)
  unfolding read
  curly-empty e = step (λ m h. case-some _ _ e refl)

  pub curly-none : {ts : List Token} → behind_sign signs.CloseCurly ts ≡ None → IsRead at (All levels.Sum) ts None → IsRead at (Behind Curly) ts None
  unfolding read
  curly-none e a = step (λ m h. case-none _ _ e (then-none _ (a.runs m (omega (arith, h)))))

  pub curly-more : {ts : List Token} {x : Found} {o : Option Found} → behind_sign signs.CloseCurly ts ≡ None → IsRead at (All levels.Sum) ts (Some x)
      → length x.rest ≤ length ts → IsRead at (Members x.said) x.rest o → IsRead at (Behind Curly) ts o
  unfolding read
  curly-more e a s b = step (λ m h. case-none _ _ e (then-some _ (a.runs m (omega (arith, h))) (b.runs m (omega (arith, h, s)))))

  -- what stands in a set
  pub members-none : {a : Said} {ts : List Token} → behind_word (codes "where") ts ≡ None → IsRead at (Range a) ts None → IsRead at (Members a) ts None
  unfolding read
  members-none e a = step (λ m h. case-none _ _ e (then-none _ (a.runs m (omega (arith, h)))))

  pub members-unread : {a : Said} {ts : List Token} {x : Found} → behind_word (codes "where") ts ≡ None → IsRead at (Range a) ts (Some x)
      → length x.rest ≤ length ts → IsRead at (More levels.Items x.said) x.rest None → IsRead at (Members a) ts None
  unfolding read
  members-unread e a s b =
      step (λ m h. case-none _ _ e (then-some _ (a.runs m (omega (arith, h))) (then-none _ (b.runs m (omega (arith, h, s))))))

  pub members-by : {a : Said} {ts : List Token} {x y : Found} {o : Option Found} → behind_word (codes "where") ts ≡ None → IsRead at (Range a) ts (Some x)
      → length x.rest ≤ length ts → IsRead at (More levels.Items x.said) x.rest (Some y) → closed signs.CloseCurly (Some y.said) y.rest ≡ o
      → IsRead at (Members a) ts o
  unfolding read
  members-by e a s b f =
      step (λ m h. case-none _ _ e (then-some _ (a.runs m (omega (arith, h))) (then-some _ (b.runs m (omega (arith, h, s))) f)))

  pub members-where : {a : Said} {ts after : List Token} {o : Option Found} → behind_word (codes "where") ts ≡ Some after → length after < length ts
      → IsRead at (Body overs.Those a) after o → IsRead at (Members a) ts o
  unfolding read
  members-where e s b = step (λ m h. case-some _ _ e (b.runs m (omega (arith, h, s))))

  -- bodies
  pub body-nowhere : {op : Over} {a : Said} {ts : List Token} → body_at at ≡ None → IsRead at (Body op a) ts None
  unfolding read
  body-nowhere e = step (λ m h. then-none _ e)

  pub body-none : {op : Over} {a : Said} {ts : List Token} {inner : Context} → body_at at ≡ Some inner → IsRead inner (All (level_of op)) ts None
      → IsRead at (Body op a) ts None
  unfolding read
  body-none {op} e b = step (λ m h. then-some _ e (then-none _ (b.runs m (omega (arith, h, body-below op)))))

  pub body-by : {op : Over} {a : Said} {ts : List Token} {inner : Context} {x : Found} {o : Option Found} → body_at at ≡ Some inner
      → IsRead inner (All (level_of op)) ts (Some x) → closed (end_of op) (over_set op a x.said) x.rest ≡ o → IsRead at (Body op a) ts o
  unfolding read
  body-by {op} e b f = step (λ m h. then-some _ e (then-some _ (b.runs m (omega (arith, h, body-below op))) f))

  -- names
  pub named-alone : {alone : Option Said} {row : Option Row} {a : Said} {ts : List Token} → behind_sign signs.OpenSquare ts ≡ None → alone ≡ Some a
      → IsRead at (Behind (Named alone row)) ts (found a ts)
  unfolding read
  named-alone e f = step (λ m h. case-none _ _ e (then-some _ f refl))

  pub named-unfit : {alone : Option Said} {row : Option Row} {ts : List Token} → behind_sign signs.OpenSquare ts ≡ None → alone ≡ None
      → IsRead at (Behind (Named alone row)) ts None
  unfolding read
  named-unfit e f = step (λ m h. case-none _ _ e (then-none _ f))

  pub named-items : {alone : Option Said} {row : Option Row} {r : Row} {ts after : List Token} {o : Option Found}
      → behind_sign signs.OpenSquare ts ≡ Some after → length after < length ts → row ≡ Some r → IsRead at (Placed r) after o
      → IsRead at (Behind (Named alone row)) ts o
  unfolding read
  named-items e s f a = step (λ m h. case-some _ _ e (then-some _ f (a.runs m (omega (arith, h, s)))))

  pub named-none : {alone : Option Said} {row : Option Row} {ts after : List Token} → behind_sign signs.OpenSquare ts ≡ Some after → row ≡ None
      → IsRead at (Behind (Named alone row)) ts None
  unfolding read
  named-none e f = step (λ m h. case-some _ _ e (then-none _ f))

  pub placed-none : {row : Row} {ts : List Token} → IsRead at (All levels.Sum) ts None → IsRead at (Placed row) ts None
  unfolding read
  placed-none a = step (λ m h. then-none _ (a.runs m (omega (arith, h))))

  pub placed-by : {row : Row} {ts : List Token} {x : Found} {o : Option Found} → IsRead at (All levels.Sum) ts (Some x)
      → closed signs.CloseSquare (at_place at.definition at.scope row x.said) x.rest ≡ o → IsRead at (Placed row) ts o
  unfolding read
  placed-by a e = step (λ m h. then-some _ (a.runs m (omega (arith, h))) e)

  -- calls
  pub call-unopened : {call : Call} {ts : List Token} → behind_sign signs.OpenRound ts ≡ None → IsRead at (Behind (Called call)) ts None
  unfolding read
  call-unopened e = step (λ m h. then-none _ e)

  pub call-none : {call : Call} {ts inner : List Token} → behind_sign signs.OpenRound ts ≡ Some inner → length inner < length ts
      → IsRead at (All levels.Sum) inner None → IsRead at (Behind (Called call)) ts None
  unfolding read
  call-none e s a = step (λ m h. then-some _ e (then-none _ (a.runs m (omega (arith, h, s)))))

  pub call-more : {call : Call} {ts inner : List Token} {x : Found} {o : Option Found} → behind_sign signs.OpenRound ts ≡ Some inner
      → length inner < length ts
      → IsRead at (All levels.Sum) inner (Some x) → length x.rest ≤ length inner → IsRead at (Second call x.said) x.rest o
      → IsRead at (Behind (Called call)) ts o
  unfolding read
  call-more e s a t b =
      step (λ m h. then-some _ e (then-some _ (a.runs m (omega (arith, h, s))) (b.runs m (omega (arith, h, s, t)))))

  pub second-single : {call : Call} {a : Said} {ts : List Token} {o : Option Found} → behind_sign signs.Comma ts ≡ None → IsRead at (Single call a) ts o
      → IsRead at (Second call a) ts o
  unfolding read
  second-single e b = step (λ m h. case-none _ _ e (b.runs m (omega (arith, h))))

  pub single-left : {call : Call} {a : Said} {ts : List Token} {o : Option Found} → behind_sign signs.Colon ts ≡ None
      → closed signs.CloseRound (by_call call a None) ts ≡ o → IsRead at (Single call a) ts o
  unfolding read
  single-left e f = step (λ m h. case-none _ _ e f)

  pub single-none : {call : Call} {a : Said} {ts after : List Token} → behind_sign signs.Colon ts ≡ Some after → of_body call ≡ None
      → IsRead at (Single call a) ts None
  unfolding read
  single-none e f = step (λ m h. case-some _ _ e (then-none _ f))

  pub single-body : {call : Call} {op : Over} {a : Said} {ts after : List Token} {o : Option Found} → behind_sign signs.Colon ts ≡ Some after
      → length after < length ts → of_body call ≡ Some op → IsRead at (Body op a) after o → IsRead at (Single call a) ts o
  unfolding read
  single-body e s f b = step (λ m h. case-some _ _ e (then-some _ f (b.runs m (omega (arith, h, s)))))

  pub second-none : {call : Call} {a : Said} {ts after : List Token} → behind_sign signs.Comma ts ≡ Some after → length after < length ts
      → IsRead at (All levels.Sum) after None → IsRead at (Second call a) ts None
  unfolding read
  second-none e s b = step (λ m h. case-some _ _ e (then-none _ (b.runs m (omega (arith, h, s)))))

  pub second-by : {call : Call} {a : Said} {ts after : List Token} {x : Found} {o : Option Found} → behind_sign signs.Comma ts ≡ Some after
      → length after < length ts
      → IsRead at (All levels.Sum) after (Some x) → closed signs.CloseRound (by_call call a (Some x.said)) x.rest ≡ o → IsRead at (Second call a) ts o
  unfolding read
  second-by e s b f = step (λ m h. case-some _ _ e (then-some _ (b.runs m (omega (arith, h, s))) f))

  -- items
  pub item-more : {ts : List Token} {x : Found} {o : Option Found} → IsRead at (All levels.Sum) ts (Some x) → length x.rest ≤ length ts
      → IsRead at (Range x.said) x.rest o → IsRead at Item ts o
  unfolding read
  item-more a s b = step (λ m h. then-some _ (a.runs m (omega (arith, h))) (b.runs m (omega (arith, h, s))))

  pub item-none : {ts : List Token} → IsRead at (All levels.Sum) ts None → IsRead at Item ts None
  unfolding read
  item-none a = step (λ m h. then-none _ (a.runs m (omega (arith, h))))

  pub range-only : {a : Said} {ts : List Token} {p : Option Said} → behind_sign signs.To ts ≡ None → only_by a.sort a ≡ p
      → IsRead at (Range a) ts (p >>= λ b. found b ts)
  unfolding read
  range-only {ts = ts} e f = step (λ m h. case-none _ _ e (ap (λ p. p >>= λ b. found b ts) f))

  pub range-on : {a : Said} {ts after : List Token} {p : Option Said} → behind_sign signs.To ts ≡ Some after → ends_item after ≡ true → between a how_many ≡ p
      → IsRead at (Range a) ts (p >>= λ b. found b after)
  unfolding read
  range-on {after = after} e t f = step (λ m h. case-some _ _ e (rw t (ap (λ p. p >>= λ b. found b after) f)))

  pub range-none : {a : Said} {ts after : List Token} → behind_sign signs.To ts ≡ Some after → length after < length ts → ends_item after ≡ false
      → IsRead at (All levels.Sum) after None → IsRead at (Range a) ts None
  unfolding read
  range-none e s t b = step (λ m h. case-some _ _ e (rw t (then-none _ (b.runs m (omega (arith, h, s))))))

  pub range-by : {a : Said} {ts after : List Token} {x : Found} {p : Option Said} → behind_sign signs.To ts ≡ Some after → length after < length ts
      → ends_item after ≡ false
      → IsRead at (All levels.Sum) after (Some x) → between a x.said ≡ p → IsRead at (Range a) ts (p >>= λ b. found b x.rest)
  unfolding read
  range-by {x = x} e s t b f =
      step (λ m h. case-some _ _ e (rw t (then-some _ (b.runs m (omega (arith, h, s))) (ap (λ p. p >>= λ b. found b x.rest) f))))

-- closing brackets
pub closed-by : {rest : List Token} (sign : Sign) (a : Option Said) (ts : List Token) → behind_sign sign ts ≡ Some rest
    → closed sign a ts ≡ (a >>= λ b. found b rest)
closed-by sign a ts e = then-some _ e refl

pub closed-none : (sign : Sign) (a : Option Said) (ts : List Token) → behind_sign sign ts ≡ None → closed sign a ts ≡ None
closed-none sign a ts e = then-none _ e

-- what is made, where it can be and a bracket closes behind it
pub closed-made : {rest : List Token} {a : Option Said} {c : Said} (sign : Sign) (ts : List Token) → behind_sign sign ts ≡ Some rest → a ≡ Some c
    → closed sign a ts ≡ found c rest
closed-made {a = a} sign ts e f = closed-by sign a ts e ∙ then-some _ f refl

pub closed-unfit : {rest : List Token} {a : Option Said} (sign : Sign) (ts : List Token) → behind_sign sign ts ≡ Some rest → a ≡ None
    → closed sign a ts ≡ None
closed-unfit {a = a} sign ts e f = closed-by sign a ts e ∙ then-none _ f

-- what a leaf is by itself
pub leaf-typed : (leaf : Leaf) {sort : Sort} {o : Option Sort} → o ≡ Some sort
    → typed (terms.Leaf leaf) o ≡ Some (record { term = terms.Leaf leaf; sort = sort })
leaf-typed leaf e = ap (typed (terms.Leaf leaf)) e

pub leaf-untyped : (leaf : Leaf) {o : Option Sort} → o ≡ None → typed (terms.Leaf leaf) o ≡ None
leaf-untyped leaf e = ap (typed (terms.Leaf leaf)) e

-- what a word begins
module _ {at : Context} {ts : List Token} (word : List ℕ) where
  pub word-named : {o : Option Leaf} {leaf : Leaf} {p : Option Found} → o ≡ Some leaf
      → IsRead at (Behind (Named (typed (terms.Leaf leaf) (leaf_sort at.definition at.scope at.within leaf)) (row_of at.definition leaf))) ts p
      → IsRead at (Behind (begins_word at word o)) ts p
  word-named e a = rw e a

  pub word-called : {o : Option Leaf} {call : Call} {p : Option Found} → o ≡ None → called word ≡ Some call → IsRead at (Behind (Called call)) ts p
      → IsRead at (Behind (begins_word at word o)) ts p
  word-called e f a = rw (e, f) a

  pub word-nowhere : {o : Option Leaf} → o ≡ None → called word ≡ None → IsRead at (Behind (begins_word at word o)) ts None
  word-nowhere e f = rw (e, f) nowhere-by

-- what a first token begins
module _ {at : Context} {ts rest : List Token} {t : Token} where
  pub atom-as : {u : Token} {o : Option Found} → ts ≡ t ∷ rest → t ≡ u → IsRead at (Behind (begins at u)) rest o → IsRead at Atom ts o
  atom-as e f a = rw (e, f) (atom-by a)

pub atom-end : {at : Context} (ts : List Token) → length ts ≡ 0 → IsRead at Atom ts None
atom-end [] h = atom-none
atom-end (t ∷ ts) h = absurd (omega (arith, h))

pub no-brackets : {at : Context} {ts : List Token} (sign : Sign) → (sign ≡ signs.OpenRound → ⊥) → (sign ≡ signs.OpenCurly → ⊥)
    → IsRead at (Behind (begins_sign sign)) ts None
no-brackets signs.OpenRound a b = absurd (a refl)
no-brackets signs.OpenCurly a b = absurd (b refl)
no-brackets other a b = nowhere-by

pub right-divided : (at : Context) (ts : List Token) (result : Result (Typed × Bor (List Token)) Unread) → Finds (first_divisor at ts) result
    → Reads at (Right levels.Term) ts result
right-divided at ts (Ok r) e = right-term e
right-divided at ts (Err e) f = λ known. right-term (f known)

-- enough steps for what comes first
pub first-read : (at : Context) (next : Next) (ts : List Token) (result : Result (Typed × Bor (List Token)) Unread) → Reads at next ts result
    → Finds (read at (suc (steps next ts)) next ts) result
first-read at next ts (Ok r) a = a.runs _ (omega arith)
first-read at next ts (Err e) f = λ known. (f known).runs _ (omega arith)
