-- What is read, once what it is made of is read: from some number of steps on.
use Rattle.std.proofs.Common.{◌≡◌, ℕ, zero, suc, ◌+◌, ◌<◌, ◌≤◌, Bool, true, false, List, [], ◌∷◌, length, codes, Option, Some, None, refl, sym, ap, ◌∙◌, arith}
use Rattle.std.specs.Prelude.{if◌then◌else◌}
use Rattle.lf_rules.specs.Terms as terms
use Rattle.lf_rules.specs.declared.expr.Unary.{Unary}
use Rattle.lf_rules.specs.declared.expr.Unary.TheVariants as ones
use Rattle.lf_rules.specs.declared.expr.Row.{Row}
use Rattle.lf_rules.specs.declared.expr.Over.{Over}
use Rattle.lf_rules.specs.declared.expr.Over.TheVariants as overs
use Rattle.lf_grammar.specs.declared.sign.Sign.{Sign}
use Rattle.lf_grammar.specs.declared.sign.Sign.TheVariants as signs
use Rattle.lf_grammar.specs.declared.token.Token.{Token}
use Rattle.lf_grammar.specs.declared.token.Token.TheVariants as tokens
use Rattle.lf_grammar.specs.declared.level.Level.{Level}
use Rattle.lf_grammar.specs.declared.level.Level.TheVariants as levels
use Rattle.lf_grammar.specs.declared.level.Joint.{Joint}
use Rattle.lf_grammar.specs.declared.level.Joint.TheVariants as joints
use Rattle.lf_grammar.specs.declared.calls.Call.{Call}
use Rattle.lf_grammar.specs.Places.{Context, body_at}
use Rattle.lf_grammar.specs.Typing.{Said, ◌>>=◌, by_one, compared, joined, by_call, at_place, over_set, only_by, between, how_many, no_node}
use Rattle.lf_grammar.specs.Fronts.{Cut, cut, Joined, behind_word, behind_sign, behind_comparison, behind_joint, of_body, level_of, end_of, ends_item}
use Rattle.lf_grammar.specs.Expressions.{Found, found, Alone, Named, Round, Curly, Called, Nowhere, Next, All, Left, More, Right, Denied, Comparison}
use Rattle.lf_grammar.specs.Expressions.{Compared, Atom, Behind, Placed, Second, Single, Item, Range, Members, Body, cases_of, closed, begins, first_divisor}
use Rattle.lf_grammar.specs.Expressions.{read, steps}
use Rattle.lf_grammar.proofs.Enough.{enough-same}

-- one step after another, where something is there or isn't
then-some : {A B : Type 0} {o : Option A} {x : A} {p : Option B} (next : A → Option B) → o ≡ Some x → next x ≡ p → (o >>= next) ≡ p
then-some next e f = ap (λ o. o >>= next) e ∙ f

case-some : {A B : Type 0} {o : Option A} {x : A} {p : Option B} (absent : Option B) (present : A → Option B) → o ≡ Some x → present x ≡ p
    → cases_of o absent present ≡ p
case-some absent present e f = ap (λ o. cases_of o absent present) e ∙ f

case-none : {A B : Type 0} {o : Option A} {p : Option B} (absent : Option B) (present : A → Option B) → o ≡ None → absent ≡ p
    → cases_of o absent present ≡ p
case-none absent present e f = ap (λ o. cases_of o absent present) e ∙ f

-- this is read by any number of steps from one on
pub record IsSure (at : Context) (next : Next) (ts : List Token) (o : Option Found) : Type 0 where
  pub least : ℕ
  pub runs : (n : ℕ) → least ≤ n → read at n next ts ≡ o

step : {at : Context} {next : Next} {ts : List Token} {o : Option Found} (least : ℕ) → ((n : ℕ) → least ≤ n → read at (suc n) next ts ≡ o)
    → IsSure at next ts o
step {at} {next} {ts} {o} least f = record { least = suc least; runs = go }
  where
    go : (n : ℕ) → suc least ≤ n → read at n next ts ≡ o
    go zero h = absurd (omega (arith, h))
    go (suc n) h = f n (omega (arith, h))

-- nothing that stands first joins operands so strongly
abbrev Ends : Level → List Token → Type 0
Ends level ts = behind_joint level ts ≡ None

module _ {at : Context} where
  -- so it is by each number that is enough
  pub sure-enough : {next : Next} {ts : List Token} {o : Option Found} (n : ℕ) → steps next ts < n → IsSure at next ts o → read at n next ts ≡ o
  sure-enough {next} {ts} n h a =
      enough-same at n (n + a.least) next ts h (omega (arith, h)) ∙ a.runs (n + a.least) (omega arith)

  sure-all : {level : Level} {ts : List Token} {x : Found} {o : Option Found} → IsSure at (Left level) ts (Some x) → IsSure at (More level x.said) x.rest o
      → IsSure at (All level) ts o
  unfolding read
  sure-all a b = step (a.least + b.least) (λ n h. then-some _ (a.runs n (omega (arith, h))) (b.runs n (omega (arith, h))))

  sure-left-or : {ts : List Token} {o : Option Found} → IsSure at (All levels.And) ts o → IsSure at (Left levels.Or) ts o
  unfolding read
  sure-left-or a = step a.least (λ n h. a.runs n h)

  sure-left-and : {ts : List Token} {o : Option Found} → IsSure at Denied ts o → IsSure at (Left levels.And) ts o
  unfolding read
  sure-left-and a = step a.least (λ n h. a.runs n h)

  sure-left-sum : {ts : List Token} {o : Option Found} → IsSure at (All levels.Term) ts o → IsSure at (Left levels.Sum) ts o
  unfolding read
  sure-left-sum a = step a.least (λ n h. a.runs n h)

  sure-left-term : {ts : List Token} {o : Option Found} → IsSure at Atom ts o → IsSure at (Left levels.Term) ts o
  unfolding read
  sure-left-term a = step a.least (λ n h. a.runs n h)

  sure-end : {level : Level} {a : Said} {ts : List Token} → behind_joint level ts ≡ None → IsSure at (More level a) ts (found a ts)
  unfolding read
  sure-end e = step 0 (λ n h. case-none _ _ e refl)

  sure-more : {level : Level} {a c : Said} {ts : List Token} {j : Joined} {x : Found} {o : Option Found} → behind_joint level ts ≡ Some j
      → IsSure at (Right level) j.rest (Some x) → joined j.by a x.said ≡ Some c → IsSure at (More level c) x.rest o → IsSure at (More level a) ts o
  unfolding read
  sure-more e b f g =
      step (b.least + g.least)
      (λ n h. case-some _ _ e (then-some _ (b.runs n (omega (arith, h))) (then-some _ f (g.runs n (omega (arith, h))))))

  sure-right-term : {ts : List Token} {o : Option Found} → first_divisor at ts ≡ o → IsSure at (Right levels.Term) ts o
  unfolding read
  sure-right-term e = step 0 (λ n h. e)

  sure-right-or : {ts : List Token} {o : Option Found} → IsSure at (Left levels.Or) ts o → IsSure at (Right levels.Or) ts o
  unfolding read
  sure-right-or a = step a.least (λ n h. a.runs n h)

  sure-right-and : {ts : List Token} {o : Option Found} → IsSure at (Left levels.And) ts o → IsSure at (Right levels.And) ts o
  unfolding read
  sure-right-and a = step a.least (λ n h. a.runs n h)

  sure-right-sum : {ts : List Token} {o : Option Found} → IsSure at (Left levels.Sum) ts o → IsSure at (Right levels.Sum) ts o
  unfolding read
  sure-right-sum a = step a.least (λ n h. a.runs n h)

  sure-plain : {ts : List Token} {o : Option Found} → behind_word (codes "not") ts ≡ None → IsSure at Comparison ts o → IsSure at Denied ts o
  unfolding read
  sure-plain e a = step a.least (λ n h. case-none _ _ e (a.runs n h))

  sure-denied : {ts after : List Token} {x : Found} {c : Said} → behind_word (codes "not") ts ≡ Some after → IsSure at Denied after (Some x)
      → by_one ones.Not x.said ≡ Some c → IsSure at Denied ts (found c x.rest)
  unfolding read
  sure-denied e a f = step a.least (λ n h. case-some _ _ e (then-some _ (a.runs n h) (then-some _ f refl)))

  sure-comparison : {ts : List Token} {x : Found} {o : Option Found} → IsSure at (All levels.Sum) ts (Some x) → IsSure at (Compared x.said) x.rest o
      → IsSure at Comparison ts o
  unfolding read
  sure-comparison a b = step (a.least + b.least) (λ n h. then-some _ (a.runs n (omega (arith, h))) (b.runs n (omega (arith, h))))

  sure-uncompared : {a : Said} {ts : List Token} → behind_comparison ts ≡ None → IsSure at (Compared a) ts (found a ts)
  unfolding read
  sure-uncompared e = step 0 (λ n h. case-none _ _ e refl)

  sure-compared : {a c : Said} {ts : List Token} {k : Cut} {x : Found} → behind_comparison ts ≡ Some k → IsSure at (All levels.Sum) k.rest (Some x)
      → compared k.first a x.said ≡ Some c → IsSure at (Compared a) ts (found c x.rest)
  unfolding read
  sure-compared e b f = step b.least (λ n h. case-some _ _ e (then-some _ (b.runs n h) (then-some _ f refl)))

  pub sure-atom : {t : Token} {ts : List Token} {o : Option Found} → IsSure at (Behind (begins at t)) ts o → IsSure at Atom (t ∷ ts) o
  unfolding read
  sure-atom a = step a.least (λ n h. a.runs n h)

  pub sure-alone : {a : Said} {ts : List Token} → IsSure at (Behind (Alone a)) ts (found a ts)
  unfolding read
  sure-alone = step 0 (λ n h. refl)

  -- a name by itself, and one with a place in brackets
  pub sure-named : {row : Option Row} {a : Said} {ts : List Token} → behind_sign signs.OpenSquare ts ≡ None
      → IsSure at (Behind (Named (Some a) row)) ts (found a ts)
  unfolding read
  sure-named e = step 0 (λ n h. case-none _ _ e refl)

  pub sure-placed : {alone : Option Said} {row : Row} {ts rest : List Token} {a c : Said}
      → IsSure at (All levels.Sum) ts (found a (tokens.Sign signs.CloseSquare ∷ rest)) → at_place at.definition at.scope row a ≡ Some c
      → IsSure at (Behind (Named alone (Some row))) (tokens.Sign signs.OpenSquare ∷ ts) (found c rest)
  unfolding read
  sure-placed {alone} {row} {ts} {rest} {a} {c} s f =
      step (suc s.least) (λ n h. placed n h)
    where
      placed : (n : ℕ) → suc s.least ≤ n → read at n (Placed row) ts ≡ found c rest
      placed zero h = absurd (omega (arith, h))
      placed (suc n) h = then-some _ (s.runs n (omega (arith, h))) (then-some _ f refl)

  -- what stands in round brackets
  pub sure-round : {ts rest : List Token} {a : Said} → IsSure at (All levels.Or) ts (found a (tokens.Sign signs.CloseRound ∷ rest))
      → IsSure at (Behind Round) ts (found a rest)
  unfolding read
  sure-round a = step a.least (λ n h. then-some _ (a.runs n h) refl)

  pub sure-empty : {rest : List Token} → IsSure at (Behind Curly) (tokens.Sign signs.CloseCurly ∷ rest) (found no_node rest)
  unfolding read
  sure-empty = step 0 (λ n h. refl)

  sure-curly : {ts : List Token} {x : Found} {o : Option Found} → behind_sign signs.CloseCurly ts ≡ None → IsSure at (All levels.Sum) ts (Some x)
      → IsSure at (Members x.said) x.rest o → IsSure at (Behind Curly) ts o
  unfolding read
  sure-curly e a b = step (a.least + b.least) (λ n h. case-none _ _ e (then-some _ (a.runs n (omega (arith, h))) (b.runs n (omega (arith, h)))))

  sure-members : {a c : Said} {ts rest : List Token} {x : Found} → behind_word (codes "where") ts ≡ None → IsSure at (Range a) ts (Some x)
      → IsSure at (More levels.Items x.said) x.rest (found c (tokens.Sign signs.CloseCurly ∷ rest)) → IsSure at (Members a) ts (found c rest)
  unfolding read
  sure-members e a b =
      step (a.least + b.least) (λ n h. case-none _ _ e (then-some _ (a.runs n (omega (arith, h))) (then-some _ (b.runs n (omega (arith, h))) refl)))

  sure-where : {a : Said} {ts : List Token} {o : Option Found} → IsSure at (Body overs.Those a) ts o
      → IsSure at (Members a) (tokens.Word (codes "where") ∷ ts) o
  unfolding read
  sure-where b = step b.least (λ n h. b.runs n h)

  pub sure-call : {call : Call} {ts rest : List Token} {a c : Said} → IsSure at (All levels.Sum) ts (found a (tokens.Sign signs.CloseRound ∷ rest))
      → by_call call a None ≡ Some c → IsSure at (Behind (Called call)) (tokens.Sign signs.OpenRound ∷ ts) (found c rest)
  unfolding read
  sure-call {call} {ts} {rest} {a} {c} s f =
      step (suc (suc s.least)) (λ n h. go n h)
    where
      single : (n : ℕ) → 1 ≤ n → read at n (Single call a) (tokens.Sign signs.CloseRound ∷ rest) ≡ found c rest
      single zero h = absurd (omega (arith, h))
      single (suc n) h = then-some _ f refl

      second : (n : ℕ) → 2 ≤ n → read at n (Second call a) (tokens.Sign signs.CloseRound ∷ rest) ≡ found c rest
      second zero h = absurd (omega (arith, h))
      second (suc n) h = single n (omega (arith, h))

      go : (n : ℕ) → suc (suc s.least) ≤ n → read at (suc n) (Behind (Called call)) (tokens.Sign signs.OpenRound ∷ ts) ≡ found c rest
      go n h = then-some _ (s.runs n (omega (arith, h))) (second n (omega (arith, h)))

  pub sure-call-of-two : {call : Call} {ts us rest : List Token} {a b c : Said} → IsSure at (All levels.Sum) ts (found a (tokens.Sign signs.Comma ∷ us))
      → IsSure at (All levels.Sum) us (found b (tokens.Sign signs.CloseRound ∷ rest)) → by_call call a (Some b) ≡ Some c
      → IsSure at (Behind (Called call)) (tokens.Sign signs.OpenRound ∷ ts) (found c rest)
  unfolding read
  sure-call-of-two {call} {ts} {us} {rest} {a} {b} {c} s u f =
      step (suc (s.least + u.least)) (λ n h. go n h)
    where
      second : (n : ℕ) → suc u.least ≤ n → read at n (Second call a) (tokens.Sign signs.Comma ∷ us) ≡ found c rest
      second zero h = absurd (omega (arith, h))
      second (suc n) h = then-some _ (u.runs n (omega (arith, h))) (then-some _ f refl)

      go : (n : ℕ) → suc (s.least + u.least) ≤ n → read at (suc n) (Behind (Called call)) (tokens.Sign signs.OpenRound ∷ ts) ≡ found c rest
      go n h = then-some _ (s.runs n (omega (arith, h))) (second n (omega (arith, h)))

  -- a body, and what closes behind it
  sure-body : {inner : Context} {op : Over} {a b c : Said} {ts us rest : List Token} → body_at at ≡ Some inner
      → IsSure inner (All (level_of op)) ts (found b us) → behind_sign (end_of op) us ≡ Some rest → over_set op a b ≡ Some c
      → IsSure at (Body op a) ts (found c rest)
  unfolding read
  sure-body e s g f = step s.least (λ n h. then-some _ e (then-some _ (s.runs n h) (then-some _ g (then-some _ f refl))))

  pub sure-call-of-body : {inner : Context} {call : Call} {op : Over} {ts us vs rest : List Token} {a b c : Said} → body_at at ≡ Some inner
      → of_body call ≡ Some op → IsSure at (All levels.Sum) ts (found a (tokens.Sign signs.Colon ∷ us))
      → IsSure inner (All (level_of op)) us (found b vs) → behind_sign (end_of op) vs ≡ Some rest → over_set op a b ≡ Some c
      → IsSure at (Behind (Called call)) (tokens.Sign signs.OpenRound ∷ ts) (found c rest)
  unfolding read
  sure-call-of-body {inner} {call} {op} {ts} {us} {vs} {rest} {a} {b} {c} e o s u g f =
      step (suc (suc (s.least + body.least))) (λ n h. go n h)
    where
      body : IsSure at (Body op a) us (found c rest)
      body = sure-body e u g f

      single : (n : ℕ) → suc body.least ≤ n → read at n (Single call a) (tokens.Sign signs.Colon ∷ us) ≡ found c rest
      single zero h = absurd (omega (arith, h))
      single (suc n) h = then-some _ o (body.runs n (omega (arith, h)))

      second : (n : ℕ) → suc (suc body.least) ≤ n → read at n (Second call a) (tokens.Sign signs.Colon ∷ us) ≡ found c rest
      second zero h = absurd (omega (arith, h))
      second (suc n) h = single n (omega (arith, h))

      go : (n : ℕ) → suc (suc (s.least + body.least)) ≤ n → read at (suc n) (Behind (Called call)) (tokens.Sign signs.OpenRound ∷ ts) ≡ found c rest
      go n h = then-some _ (s.runs n (omega (arith, h))) (second n (omega (arith, h)))

  sure-only : {a c : Said} {rest : List Token} → only_by a.sort a ≡ Some c
      → IsSure at (Range a) (tokens.Sign signs.CloseCurly ∷ rest) (found c (tokens.Sign signs.CloseCurly ∷ rest))
  unfolding read
  sure-only f = step 0 (λ n h. then-some _ f refl)

  sure-range : {a c : Said} {ts : List Token} {x : Found} → ends_item ts ≡ false → IsSure at (All levels.Sum) ts (Some x) → between a x.said ≡ Some c
      → IsSure at (Range a) (tokens.Sign signs.To ∷ ts) (found c x.rest)
  unfolding read
  sure-range e b f = step b.least (λ n h. rw e (then-some _ (b.runs n h) (then-some _ f refl)))

  -- ---- an atom as operands of each strength, where what stands behind it joins nothing so strongly

  pub sure-term : {ts rest : List Token} {a : Said} → IsSure at Atom ts (found a rest) → Ends levels.Term rest → IsSure at (Left levels.Sum) ts (found a rest)
  sure-term a e = sure-left-sum (sure-all (sure-left-term a) (sure-end e))

  pub sure-sum : {ts rest : List Token} {a : Said} → IsSure at Atom ts (found a rest) → Ends levels.Term rest → Ends levels.Sum rest
      → IsSure at (All levels.Sum) ts (found a rest)
  sure-sum a e f = sure-all (sure-term a e) (sure-end f)

  -- two operands with a sign between
  pub sure-sum-of-two : {ts us rest : List Token} {a b c : Said} {by : Joint} {t : Token} → IsSure at Atom ts (found a (t ∷ us)) → Ends levels.Term (t ∷ us)
      → behind_joint levels.Sum (t ∷ us) ≡ Some (record { by = by; rest = us }) → IsSure at Atom us (found b rest) → Ends levels.Term rest
      → Ends levels.Sum rest → joined by a b ≡ Some c → IsSure at (All levels.Sum) ts (found c rest)
  sure-sum-of-two a e j b f g made = sure-all (sure-term a e) (sure-more j (sure-right-sum (sure-term b f)) made (sure-end g))

  -- a number by a divisor
  pub sure-remainder : {ts us rest : List Token} {a b c : Said} {t : Token} → IsSure at Atom ts (found a (t ∷ us))
      → behind_joint levels.Term (t ∷ us) ≡ Some (record { by = joints.Remainder; rest = us }) → first_divisor at us ≡ found b rest → Ends levels.Term rest
      → Ends levels.Sum rest → joined joints.Remainder a b ≡ Some c → IsSure at (All levels.Sum) ts (found c rest)
  sure-remainder a j d e f made =
      sure-all (sure-left-sum (sure-all (sure-left-term a) (sure-more j (sure-right-term d) made (sure-end e)))) (sure-end f)

  -- a comparison, and what may be denied
  pub sure-plain-sum : {ts rest : List Token} {a : Said} → behind_word (codes "not") ts ≡ None → IsSure at (All levels.Sum) ts (found a rest)
      → behind_comparison rest ≡ None → IsSure at Denied ts (found a rest)
  sure-plain-sum e a f = sure-plain e (sure-comparison a (sure-uncompared f))

  pub sure-comparing : {ts us rest : List Token} {a b c : Said} {t : Token} → behind_word (codes "not") ts ≡ None
      → IsSure at (All levels.Sum) ts (found a (t ∷ us)) → behind_comparison (t ∷ us) ≡ Some (record { first = t; rest = us })
      → IsSure at (All levels.Sum) us (found b rest) → compared t a b ≡ Some c → IsSure at Denied ts (found c rest)
  sure-comparing e a f b made = sure-plain e (sure-comparison a (sure-compared f b made))

  pub sure-not : {ts rest : List Token} {a c : Said} → IsSure at Denied ts (found a rest) → by_one ones.Not a ≡ Some c
      → IsSure at Denied (tokens.Word (codes "not") ∷ ts) (found c rest)
  sure-not a made = sure-denied refl a made

  -- a truth that is one part, parts with `and`, parts with `or`
  pub sure-or : {ts rest : List Token} {a : Said} → IsSure at Denied ts (found a rest) → Ends levels.And rest → Ends levels.Or rest
      → IsSure at (All levels.Or) ts (found a rest)
  sure-or a e f = sure-all (sure-left-or (sure-all (sure-left-and a) (sure-end e))) (sure-end f)

  pub sure-and-of-two : {ts us rest : List Token} {a b c : Said} {t : Token} → IsSure at Denied ts (found a (t ∷ us))
      → behind_joint levels.And (t ∷ us) ≡ Some (record { by = joints.And; rest = us }) → IsSure at Denied us (found b rest) → Ends levels.And rest
      → Ends levels.Or rest → joined joints.And a b ≡ Some c → IsSure at (All levels.Or) ts (found c rest)
  sure-and-of-two a j b e f made =
      sure-all (sure-left-or (sure-all (sure-left-and a) (sure-more j (sure-right-and (sure-left-and b)) made (sure-end e)))) (sure-end f)

  pub sure-or-of-two : {ts us rest : List Token} {a b c : Said} {t : Token} → IsSure at Denied ts (found a (t ∷ us)) → Ends levels.And (t ∷ us)
      → behind_joint levels.Or (t ∷ us) ≡ Some (record { by = joints.Or; rest = us }) → IsSure at Denied us (found b rest) → Ends levels.And rest
      → Ends levels.Or rest → joined joints.Or a b ≡ Some c → IsSure at (All levels.Or) ts (found c rest)
  sure-or-of-two a e j b f g made =
      sure-all (sure-left-or (sure-all (sure-left-and a) (sure-end e)))
      (sure-more j (sure-right-or (sure-left-or (sure-all (sure-left-and b) (sure-end f)))) made (sure-end g))

  -- sets of one item
  pub sure-set-of-one : {ts rest : List Token} {a c : Said} → behind_sign signs.CloseCurly ts ≡ None
      → IsSure at (All levels.Sum) ts (found a (tokens.Sign signs.CloseCurly ∷ rest)) → only_by a.sort a ≡ Some c
      → IsSure at (Behind Curly) ts (found c rest)
  sure-set-of-one e a made = sure-curly e a (sure-members refl (sure-only made) (sure-end refl))

  pub sure-set-between : {ts us rest : List Token} {a b c : Said} → behind_sign signs.CloseCurly ts ≡ None
      → IsSure at (All levels.Sum) ts (found a (tokens.Sign signs.To ∷ us)) → ends_item us ≡ false
      → IsSure at (All levels.Sum) us (found b (tokens.Sign signs.CloseCurly ∷ rest)) → between a b ≡ Some c
      → IsSure at (Behind Curly) ts (found c rest)
  sure-set-between e a f b made = sure-curly e a (sure-members refl (sure-range f b made) (sure-end refl))

  -- the nodes of a set for which a body is true
  pub sure-set-where : {inner : Context} {ts us rest : List Token} {a b c : Said} → body_at at ≡ Some inner → behind_sign signs.CloseCurly ts ≡ None
      → IsSure at (All levels.Sum) ts (found a (tokens.Word (codes "where") ∷ us))
      → IsSure inner (All levels.Or) us (found b (tokens.Sign signs.CloseCurly ∷ rest)) → over_set overs.Those a b ≡ Some c
      → IsSure at (Behind Curly) ts (found c rest)
  sure-set-where w e a b made = sure-curly e a (sure-where (sure-body w b refl made))
