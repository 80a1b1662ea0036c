-- What comes first of tokens is of its sort, and short, however it is read.
use Rattle.std.proofs.Common.{◌≡◌, ℕ, zero, suc, ◌+◌, ◌*◌, ◌<◌, ◌≤◌, Bool, true, false, ◌&&◌, List, [], ◌∷◌, length, codes, Option, Some, None, Ok, Err}
use Rattle.std.proofs.Common.{Result, IfOk, refl, sym, ap, subst, arith}
use Rattle.std.specs.Prelude.{if◌then◌else◌}
use Rattle.std.specs.Str.{bytes_eq}
use Rattle.std.proofs.lemmas.Bool.{false≢true}
use Rattle.std.proofs.lemmas.Option.{none-some}
use Rattle.std.specs.Borrow.{Bor}
use Rattle.lf_rules.specs.Terms.{term_of}
use Rattle.lf_rules.specs.Terms as terms
use Rattle.lf_rules.specs.Trees.{parts}
use Rattle.lf_rules.specs.Sorts.{is_of, leaf_sort, tree_sort}
use Rattle.lf_rules.specs.declared.sort.Sort.{Sort}
use Rattle.lf_rules.specs.declared.sort.Sort.TheVariants as sorts
use Rattle.lf_rules.specs.declared.expr.Leaf.{Leaf}
use Rattle.lf_rules.specs.declared.expr.Leaf.TheVariants as leaves
use Rattle.lf_rules.specs.declared.expr.Unary.TheVariants as ones
use Rattle.lf_rules.specs.declared.expr.Over.{Over}
use Rattle.lf_rules.specs.declared.expr.Over.TheVariants as overs
use Rattle.lf_grammar.specs.declared.sign.Sign.{Sign}
use Rattle.lf_grammar.specs.declared.sign.Sign.TheVariants as signs
use Rattle.lf_grammar.specs.declared.token.Token.{Token}
use Rattle.lf_grammar.specs.declared.token.Token.TheVariants as tokens
use Rattle.lf_grammar.specs.declared.level.Level.{Level}
use Rattle.lf_grammar.specs.declared.level.Level.TheVariants as levels
use Rattle.lf_grammar.specs.declared.level.Joint.{Joint}
use Rattle.lf_grammar.specs.declared.level.Joint.TheVariants as joints
use Rattle.lf_grammar.specs.declared.calls.Call.{Call}
use Rattle.lf_grammar.specs.Places.{Context, body_at, leaf_of}
use Rattle.lf_grammar.specs.Typing.{Said, ◌>>=◌, typed, by_one, compared, joined, by_call, at_place, over_set, only_by, between, how_many, no_node}
use Rattle.lf_grammar.specs.Fronts.{Cut, cut, Joined, joining, joint, behind_word, behind_sign, behind_comparison, behind_joint, ends_item, called, of_body}
use Rattle.lf_grammar.specs.Fronts.{level_of, end_of}
use Rattle.lf_grammar.specs.Fronts.{comparing, same_sign}
use Rattle.lf_grammar.specs.Typing.{compares}
use Rattle.lf_grammar.specs.Expressions.{Found, found, Begin, Alone, Named, Round, Curly, Called, Nowhere, Next, All, Left, More, Right, Denied, Comparison}
use Rattle.lf_grammar.specs.Expressions.{Compared, Atom, Behind, Placed, Second, Single, Item, Range, Members, Body, cases_of, closed, begins, begins_word}
use Rattle.lf_grammar.specs.Expressions.{begins_sign}
use Rattle.lf_grammar.specs.Expressions.{call_or_nothing, number_in_case, divisor, divisor_named, first_divisor, read, steps}
use Rattle.lf_grammar.specs.declared.typed.Typed.{Typed}
use Rattle.lf_grammar.specs.declared.error.Unread.{Unread}
use Rattle.lf_grammar.specs.Readings.{Reads, found_by}
use Rattle.lf_grammar.proofs.Typings.{some-same, step-inv, IsTyped, IsFit, fit-one, fit-at, fit-over, fit-self, fit-only, fit-joined}
use Rattle.lf_grammar.proofs.Typings.{fit-compared, fit-call, fit-call-of-two, fit-between, beside}

-- ---- what comes first takes a token at least

pub cut-shorter : {c : Cut} (ts : List Token) → cut ts ≡ Some c → length c.rest + 1 ≡ length ts
cut-shorter [] e = absurd (none-some _ e)
cut-shorter (t ∷ ts) e = rw (sym (some-same e)) (omega arith)

pub sign-shorter : {rest : List Token} (wanted : Sign) (ts : List Token) → behind_sign wanted ts ≡ Some rest → length rest + 1 ≡ length ts
sign-shorter wanted [] e = absurd (none-some _ e)
sign-shorter wanted (tokens.Number n ∷ ts) e = absurd (none-some _ e)
sign-shorter wanted (tokens.Word word ∷ ts) e = absurd (none-some _ e)
sign-shorter {rest = rest} wanted (tokens.Sign sign ∷ ts) e = go (same_sign sign wanted) e
  where
    go : (so : Bool) → (if so then Some ts else None) ≡ Some rest → length rest + 1 ≡ suc (length ts)
    go true f = rw (sym (some-same f)) (omega arith)
    go false f = absurd (none-some _ f)

pub word-shorter : {rest : List Token} (wanted : List ℕ) (ts : List Token) → behind_word wanted ts ≡ Some rest → length rest + 1 ≡ length ts
word-shorter wanted [] e = absurd (none-some _ e)
word-shorter wanted (tokens.Number n ∷ ts) e = absurd (none-some _ e)
word-shorter wanted (tokens.Sign sign ∷ ts) e = absurd (none-some _ e)
word-shorter {rest = rest} wanted (tokens.Word word ∷ ts) e = go (bytes_eq word wanted) e
  where
    go : (so : Bool) → (if so then Some ts else None) ≡ Some rest → length rest + 1 ≡ suc (length ts)
    go true f = rw (sym (some-same f)) (omega arith)
    go false f = absurd (none-some _ f)

pub comparison-shorter : {c : Cut} (ts : List Token) → behind_comparison ts ≡ Some c → length c.rest + 1 ≡ length ts
comparison-shorter {c = c} ts e =
    let i = step-inv (cut ts) (λ c. comparing (compares c.first) c) e in
    go (compares i.0.first) i.0 i.2 (cut-shorter ts i.1)
  where
    go : (so : Bool) (d : Cut) → comparing so d ≡ Some c → length d.rest + 1 ≡ length ts → length c.rest + 1 ≡ length ts
    go true d f h = rw (sym (some-same f)) h
    go false d f h = absurd (none-some _ f)

pub joint-shorter : {j : Joined} (level : Level) (ts : List Token) → behind_joint level ts ≡ Some j → length j.rest + 1 ≡ length ts
joint-shorter {j = j} level ts e =
    let i = step-inv (cut ts) (λ c. joining c.rest (joint level c.first)) e in
    go (joint level i.0.first) i.0 i.2 (cut-shorter ts i.1)
  where
    go : (by : Option Joint) (d : Cut) → joining d.rest by ≡ Some j → length d.rest + 1 ≡ length ts → length j.rest + 1 ≡ length ts
    go None d f h = absurd (none-some _ f)
    go (Some by) d f h = rw (sym (some-same f)) h

-- ---- what is read fits

abbrev level_weight : Level → ℕ
level_weight levels.Items = 2
level_weight other = 0

-- twice how many parts what is read may have, beyond three for each token but one
abbrev weight : Next → ℕ
weight (All level) = level_weight level
weight (Left level) = level_weight level
weight (More level a) = 2 * parts a.term + 1
weight (Right level) = level_weight level
weight Denied = 0
weight Comparison = 0
weight (Compared a) = 2 * parts a.term + 1
weight Atom = 0
weight (Behind begin) = 3
weight (Placed row) = 0
weight (Second call a) = 2 * parts a.term + 2
weight (Single call a) = 2 * parts a.term + 2
weight Item = 2
weight (Range a) = 2 * parts a.term + 3
weight (Members a) = 2 * parts a.term + 2
weight (Body op a) = 2 * parts a.term

module _ (at : Context) where
  -- a name by itself is typed
  abbrev pub IsName : Option Said → Type 0
  IsName None = Unit {0}
  IsName (Some a) = IsTyped at a × (parts a.term ≡ 1)

  -- what is read already is typed
  abbrev pub IsBegun : Begin → Type 0
  IsBegun (Alone a) = IsTyped at a × (parts a.term ≡ 1)
  IsBegun (Named alone row) = IsName alone
  IsBegun Round = Unit {0}
  IsBegun Curly = Unit {0}
  IsBegun (Called call) = Unit {0}
  IsBegun Nowhere = Unit {0}

  abbrev pub IsReady : Next → Type 0
  IsReady (More level a) = IsTyped at a
  IsReady (Compared a) = IsTyped at a
  IsReady (Behind begin) = IsBegun begin
  IsReady (Second call a) = IsTyped at a
  IsReady (Single call a) = IsTyped at a
  IsReady (Range a) = IsTyped at a
  IsReady (Members a) = IsTyped at a
  IsReady (Body op a) = IsTyped at a
  IsReady other = Unit {0}

  pub record IsGood (next : Next) (ts : List Token) (x : Found) : Type 0 where
    pub sort : IsTyped at x.said
    pub short : 2 * parts x.said.term + 3 * length x.rest + 1 ≤ 3 * length ts + weight next

module _ {at : Context} where
  good-found : {next : Next} {ts rest : List Token} {a : Said} {x : Found} → IsTyped at a → found a rest ≡ Some x
      → 2 * parts a.term + 3 * length rest + 1 ≤ 3 * length ts + weight next → IsGood at next ts x
  good-found h e s = let same = some-same e in rw (sym same) (record { sort = h; short = s })

  -- a value that is found where something is made
  good-made : {next : Next} {ts : List Token} {x : Found} (most : ℕ) (rest : List Token) (made : Option Said) → ((c : Said) → made ≡ Some c → IsFit at most c)
      → (made >>= λ b. found b rest) ≡ Some x → 2 * most + 3 * length rest + 1 ≤ 3 * length ts + weight next → IsGood at next ts x
  good-made most rest made fit e s =
      let i = step-inv made (λ b. found b rest) e in
      let f = fit i.0 i.1 in
      good-found f.sort i.2 (omega (arith, f.short, s))

  good-as : {one other : Next} {ts : List Token} {x : Found} → IsGood at one ts x → weight one ≤ weight other → IsGood at other ts x
  good-as g h = record { sort = g.sort; short = omega (arith, g.short, h) }

-- items are joined by commas alone
comma : {by : Joint} (t : Token) → joint levels.Items t ≡ Some by → by ≡ joints.Comma
comma (tokens.Sign signs.Comma) e = sym (some-same e)
comma (tokens.Sign other) e = absurd (none-some _ e)
comma (tokens.Word word) e = absurd (none-some _ e)
comma (tokens.Number n) e = absurd (none-some _ e)

beside-few : (by : Joint) → beside by ≤ 2
beside-few joints.Comma = omega arith
beside-few joints.Or = omega arith
beside-few joints.And = omega arith
beside-few joints.Plus = omega arith
beside-few joints.Minus = omega arith
beside-few joints.Remainder = omega arith

joining-by : {j : Joined} (rest : List Token) (o : Option Joint) → joining rest o ≡ Some j → o ≡ Some j.by
joining-by rest None e = absurd (none-some _ e)
joining-by rest (Some by) e = ap (λ (z : Joined). Some z.by) (some-same e)

-- what is joined takes few parts more
joint-light : {j : Joined} (level : Level) (ts : List Token) → behind_joint level ts ≡ Some j → 2 * beside j.by + level_weight level ≤ 4
joint-light {j} levels.Items ts e =
    let i = step-inv (cut ts) (λ c. joining c.rest (joint levels.Items c.first)) e in
    let same : j.by ≡ joints.Comma = comma i.0.first (joining-by i.0.rest (joint levels.Items i.0.first) i.2) in
    rw same (omega arith)
joint-light {j} levels.Or ts e = omega (arith, beside-few j.by)
joint-light {j} levels.And ts e = omega (arith, beside-few j.by)
joint-light {j} levels.Sum ts e = omega (arith, beside-few j.by)
joint-light {j} levels.Term ts e = omega (arith, beside-few j.by)

body-light : (op : Over) → level_weight (level_of op) ≡ 0
body-light overs.Those = refl
body-light overs.Least = refl
body-light overs.Greatest = refl

-- one way or the other, by whether something is there
cases-go : {A B G : Type 0} {y : B} (o : Option A) (absent : Option B) (present : A → Option B) → cases_of o absent present ≡ Some y
    → (o ≡ None → absent ≡ Some y → G) → ((x : A) → o ≡ Some x → present x ≡ Some y → G) → G
cases-go None absent present e none some = none refl e
cases-go (Some x) absent present e none some = some x refl e

first-true : (a b : Bool) → (a && b) ≡ true → a ≡ true
first-true true b h = refl
first-true false b h = h

is-number : (o : Option Sort) → is_of o sorts.Number ≡ true → o ≡ Some sorts.Number
is-number None h = absurd (false≢true h)
is-number (Some sorts.Number) h = refl
is-number (Some sorts.Truth) h = absurd (false≢true h)
is-number (Some sorts.Nodes) h = absurd (false≢true h)
is-number (Some (sorts.Word of)) h = absurd (false≢true h)

how-many-is-typed : (at : Context) → IsTyped at how_many
how-many-is-typed at = record { is = refl }

module _ (at : Context) where
  -- a leaf that stands alone
  abbrev pub IsLeaf : Said → Type 0
  IsLeaf a = IsTyped at a × (parts a.term ≡ 1)

  leaf-in-case : {a : Said} (so : Bool) (leaf : Leaf) → (so ≡ true → leaf_sort at.definition at.scope at.within leaf ≡ Some sorts.Number)
      → number_in_case so leaf ≡ Some a → IsLeaf a
  leaf-in-case true leaf h e = rw (sym (some-same e)) (record { is = h refl }, refl)
  leaf-in-case false leaf h e = absurd (none-some _ e)

  leaf-named : {a : Said} (o : Option Leaf) → divisor_named at o ≡ Some a → IsLeaf a
  leaf-named (Some leaves.Nodes) e = rw (sym (some-same e)) (record { is = refl }, refl)
  leaf-named (Some (leaves.Given i)) e =
      leaf-in-case _ (leaves.Given i) (λ h. is-number _ (first-true _ _ h)) e
  leaf-named other e = absurd (none-some _ e)

  leaf-divisor : {a : Said} (t : Token) → divisor at t ≡ Some a → IsLeaf a
  leaf-divisor (tokens.Number n) e = leaf-in-case _ (leaves.Number n) (λ h. refl) e
  leaf-divisor (tokens.Word word) e = leaf-named (leaf_of at.fields at.names word) e
  leaf-divisor (tokens.Sign sign) e = absurd (none-some _ e)

  begun-call : (call : Option Call) → IsBegun at (call_or_nothing call)
  begun-call None = tt
  begun-call (Some call) = tt

  begun-alone : (leaf : Leaf) (o : Option Sort) → leaf_sort at.definition at.scope at.within leaf ≡ o → IsName at (typed (terms.Leaf leaf) o)
  begun-alone leaf None e = tt
  begun-alone leaf (Some sort) e = (record { is = e }, refl)

  begun-word : (word : List ℕ) (o : Option Leaf) → IsBegun at (begins_word at word o)
  begun-word word None = begun-call (called word)
  begun-word word (Some leaf) = begun-alone leaf _ refl

  begun-sign : (sign : Sign) → IsBegun at (begins_sign sign)
  begun-sign signs.OpenRound = tt
  begun-sign signs.OpenCurly = tt
  begun-sign other = tt

  begun-token : (t : Token) → IsBegun at (begins at t)
  begun-token (tokens.Number n) = (record { is = refl }, refl)
  begun-token (tokens.Word word) = begun-word word (leaf_of at.fields at.names word)
  begun-token (tokens.Sign sign) = begun-sign sign

  good-divisor : {x : Found} (ts : List Token) → first_divisor at ts ≡ Some x → IsGood at (Right levels.Term) ts x
  good-divisor ts e =
      let i = step-inv (cut ts) (λ c. divisor at c.first >>= λ a. found a c.rest) e in
      let k = step-inv (divisor at i.0.first) (λ a. found a i.0.rest) i.2 in
      let leaf = leaf-divisor i.0.first k.1 in
      good-found leaf.0 k.2 (omega (arith, leaf.1, cut-shorter ts i.1))

  -- what closes behind a value
  good-closed : {next : Next} {ts : List Token} {x : Found} (sign : Sign) (most : ℕ) (us : List Token) (made : Option Said)
      → ((c : Said) → made ≡ Some c → IsFit at most c) → closed sign made us ≡ Some x → 2 * most + 3 * length us ≤ 3 * length ts + weight next + 2
      → IsGood at next ts x
  good-closed sign most us made fit e s =
      let i = step-inv (behind_sign sign us) (λ rest. made >>= λ b. found b rest) e in
      good-made most i.0 made fit i.2 (omega (arith, s, sign-shorter sign us i.1))

pub fits : (at : Context) (n : ℕ) (next : Next) (ts : List Token) (x : Found) → IsReady at next → read at n next ts ≡ Some x → IsGood at next ts x
unfolding read
fits at zero next ts x r e = absurd (none-some _ e)
fits at (suc n) (All level) ts x r e =
    let i = step-inv (read at n (Left level) ts) (λ y. read at n (More level y.said) y.rest) e in
    let g = fits at n (Left level) ts i.0 tt i.1 in
    let h = fits at n (More level i.0.said) i.0.rest x g.sort i.2 in
    record { sort = h.sort; short = omega (arith, g.short, h.short) }
fits at (suc n) (Left levels.Items) ts x r e = good-as (fits at n Item ts x tt e) (omega arith)
fits at (suc n) (Left levels.Or) ts x r e = good-as (fits at n (All levels.And) ts x tt e) (omega arith)
fits at (suc n) (Left levels.And) ts x r e = good-as (fits at n Denied ts x tt e) (omega arith)
fits at (suc n) (Left levels.Sum) ts x r e = good-as (fits at n (All levels.Term) ts x tt e) (omega arith)
fits at (suc n) (Left levels.Term) ts x r e = good-as (fits at n Atom ts x tt e) (omega arith)
fits at (suc n) (More level a) ts x r e =
    cases-go (behind_joint level ts) (found a ts) (λ j. read at n (Right level) j.rest >>= λ y. joined j.by a y.said
    >>= λ b. read at n (More level b) y.rest) e
    (λ none f. good-found r f (omega arith))
    (λ j some f.
    let i = step-inv (read at n (Right level) j.rest) (λ y. joined j.by a y.said >>= λ b. read at n (More level b) y.rest) f in
    let g = fits at n (Right level) j.rest i.0 tt i.1 in
    let k = step-inv (joined j.by a i.0.said) (λ b. read at n (More level b) i.0.rest) i.2 in
    let b = fit-joined j.by r g.sort k.1 in
    let h = fits at n (More level k.0) i.0.rest x b.sort k.2 in
    record { sort = h.sort; short = omega (arith, h.short, b.short, g.short, joint-shorter level ts some, joint-light level ts some) })
fits at (suc n) (Right levels.Term) ts x r e = good-divisor at ts e
fits at (suc n) (Right levels.Items) ts x r e = good-as (fits at n (Left levels.Items) ts x tt e) (omega arith)
fits at (suc n) (Right levels.Or) ts x r e = good-as (fits at n (Left levels.Or) ts x tt e) (omega arith)
fits at (suc n) (Right levels.And) ts x r e = good-as (fits at n (Left levels.And) ts x tt e) (omega arith)
fits at (suc n) (Right levels.Sum) ts x r e = good-as (fits at n (Left levels.Sum) ts x tt e) (omega arith)
fits at (suc n) Denied ts x r e =
    cases-go (behind_word (codes "not") ts) (read at n Comparison ts)
    (λ after. read at n Denied after >>= λ y. by_one ones.Not y.said >>= λ b. found b y.rest) e
    (λ none f. good-as (fits at n Comparison ts x tt f) (omega arith))
    (λ after some f.
    let i = step-inv (read at n Denied after) (λ y. by_one ones.Not y.said >>= λ b. found b y.rest) f in
    let g = fits at n Denied after i.0 tt i.1 in
    good-made (parts i.0.said.term + 1) i.0.rest (by_one ones.Not i.0.said) (λ c h. fit-one ones.Not g.sort h) i.2
    (omega (arith, g.short, word-shorter (codes "not") ts some)))
fits at (suc n) Comparison ts x r e =
    let i = step-inv (read at n (All levels.Sum) ts) (λ y. read at n (Compared y.said) y.rest) e in
    let g = fits at n (All levels.Sum) ts i.0 tt i.1 in
    let h = fits at n (Compared i.0.said) i.0.rest x g.sort i.2 in
    record { sort = h.sort; short = omega (arith, g.short, h.short) }
fits at (suc n) (Compared a) ts x r e =
    cases-go (behind_comparison ts) (found a ts) (λ c. read at n (All levels.Sum) c.rest >>= λ y. compared c.first a y.said >>= λ b. found b y.rest) e
    (λ none f. good-found r f (omega arith))
    (λ c some f.
    let i = step-inv (read at n (All levels.Sum) c.rest) (λ y. compared c.first a y.said >>= λ b. found b y.rest) f in
    let g = fits at n (All levels.Sum) c.rest i.0 tt i.1 in
    good-made (parts a.term + parts i.0.said.term + 2) i.0.rest (compared c.first a i.0.said) (λ b h. fit-compared c.first r g.sort h) i.2
    (omega (arith, g.short, comparison-shorter ts some)))
fits at (suc n) Atom ts x r e =
    let i = step-inv (cut ts) (λ c. read at n (Behind (begins at c.first)) c.rest) e in
    let h = fits at n (Behind (begins at i.0.first)) i.0.rest x (begun-token at i.0.first) i.2 in
    record { sort = h.sort; short = omega (arith, h.short, cut-shorter ts i.1) }
fits at (suc n) (Behind (Alone a)) ts x r e = good-found r.0 e (omega (arith, r.1))
fits at (suc n) (Behind (Named alone row)) ts x r e =
    cases-go (behind_sign signs.OpenSquare ts) (alone >>= λ a. found a ts) (λ after. row >>= λ y. read at n (Placed y) after) e
    (λ none f.
    let i = step-inv alone (λ a. found a ts) f in
    let name : IsName at (Some i.0) = subst (IsName at) i.1 r in
    good-found name.0 i.2 (omega (arith, name.1)))
    (λ after some f.
    let i = step-inv row (λ y. read at n (Placed y) after) f in
    let g = fits at n (Placed i.0) after x tt i.2 in
    record { sort = g.sort; short = omega (arith, g.short, sign-shorter signs.OpenSquare ts some) })
fits at (suc n) (Behind Round) ts x r e =
    let i = step-inv (read at n (All levels.Or) ts) (λ y. closed signs.CloseRound (Some y.said) y.rest) e in
    let g = fits at n (All levels.Or) ts i.0 tt i.1 in
    good-closed at signs.CloseRound (parts i.0.said.term + 1) i.0.rest (Some i.0.said) (λ c h. fit-self g.sort h) i.2 (omega (arith, g.short))
fits at (suc n) (Behind Curly) ts x r e =
    cases-go (behind_sign signs.CloseCurly ts) (read at n (All levels.Sum) ts >>= λ y. read at n (Members y.said) y.rest) (λ rest. found no_node rest) e
    (λ none f.
    let i = step-inv (read at n (All levels.Sum) ts) (λ y. read at n (Members y.said) y.rest) f in
    let g = fits at n (All levels.Sum) ts i.0 tt i.1 in
    let h = fits at n (Members i.0.said) i.0.rest x g.sort i.2 in
    record { sort = h.sort; short = omega (arith, g.short, h.short) })
    (λ rest some f. good-found (record { is = refl }) f (omega (arith, sign-shorter signs.CloseCurly ts some)))
fits at (suc n) (Behind (Called call)) ts x r e =
    let i = step-inv (behind_sign signs.OpenRound ts) (λ inner. read at n (All levels.Sum) inner >>= λ y. read at n (Second call y.said) y.rest) e in
    let k = step-inv (read at n (All levels.Sum) i.0) (λ y. read at n (Second call y.said) y.rest) i.2 in
    let g = fits at n (All levels.Sum) i.0 k.0 tt k.1 in
    let h = fits at n (Second call k.0.said) k.0.rest x g.sort k.2 in
    record { sort = h.sort; short = omega (arith, g.short, h.short, sign-shorter signs.OpenRound ts i.1) }
fits at (suc n) (Behind Nowhere) ts x r e = absurd (none-some _ e)
fits at (suc n) (Placed row) ts x r e =
    let i = step-inv (read at n (All levels.Sum) ts) (λ y. closed signs.CloseSquare (at_place at.definition at.scope row y.said) y.rest) e in
    let g = fits at n (All levels.Sum) ts i.0 tt i.1 in
    good-closed at signs.CloseSquare (parts i.0.said.term + 1) i.0.rest (at_place at.definition at.scope row i.0.said) (λ c h. fit-at row g.sort h) i.2
    (omega (arith, g.short))
fits at (suc n) (Second call a) ts x r e =
    cases-go (behind_sign signs.Comma ts) (read at n (Single call a) ts)
    (λ after. read at n (All levels.Sum) after >>= λ y. closed signs.CloseRound (by_call call a (Some y.said)) y.rest) e
    (λ none f. good-as (fits at n (Single call a) ts x r f) (omega arith))
    (λ after some f.
    let i = step-inv (read at n (All levels.Sum) after) (λ y. closed signs.CloseRound (by_call call a (Some y.said)) y.rest) f in
    let g = fits at n (All levels.Sum) after i.0 tt i.1 in
    good-closed at signs.CloseRound (parts a.term + parts i.0.said.term + 1) i.0.rest (by_call call a (Some i.0.said))
    (λ c h. fit-call-of-two call r g.sort h) i.2 (omega (arith, g.short, sign-shorter signs.Comma ts some)))
fits at (suc n) (Single call a) ts x r e =
    cases-go (behind_sign signs.Colon ts) (closed signs.CloseRound (by_call call a None) ts) (λ after. of_body call >>= λ op. read at n (Body op a) after) e
    (λ none f. good-closed at signs.CloseRound (parts a.term + 2) ts (by_call call a None) (λ c h. fit-call call r h) f (omega arith))
    (λ after some f.
    let i = step-inv (of_body call) (λ op. read at n (Body op a) after) f in
    let g = fits at n (Body i.0 a) after x r i.2 in
    record { sort = g.sort; short = omega (arith, g.short, sign-shorter signs.Colon ts some) })
fits at (suc n) (Members a) ts x r e =
    cases-go (behind_word (codes "where") ts)
    (read at n (Range a) ts >>= λ y. read at n (More levels.Items y.said) y.rest >>= λ z. closed signs.CloseCurly (Some z.said) z.rest)
    (λ after. read at n (Body overs.Those a) after) e
    (λ none f.
    let i = step-inv (read at n (Range a) ts) (λ y. read at n (More levels.Items y.said) y.rest >>= λ z. closed signs.CloseCurly (Some z.said) z.rest) f in
    let g = fits at n (Range a) ts i.0 r i.1 in
    let k = step-inv (read at n (More levels.Items i.0.said) i.0.rest) (λ z. closed signs.CloseCurly (Some z.said) z.rest) i.2 in
    let h = fits at n (More levels.Items i.0.said) i.0.rest k.0 g.sort k.1 in
    good-closed at signs.CloseCurly (parts k.0.said.term + 1) k.0.rest (Some k.0.said) (λ c l. fit-self h.sort l) k.2 (omega (arith, g.short, h.short)))
    (λ after some f.
    let g = fits at n (Body overs.Those a) after x r f in
    record { sort = g.sort; short = omega (arith, g.short, word-shorter (codes "where") ts some) })
fits at (suc n) (Body op a) ts x r e =
    let i = step-inv (body_at at) (λ inner. read inner n (All (level_of op)) ts >>= λ y. closed (end_of op) (over_set op a y.said) y.rest) e in
    let k = step-inv (read i.0 n (All (level_of op)) ts) (λ y. closed (end_of op) (over_set op a y.said) y.rest) i.2 in
    let g = fits i.0 n (All (level_of op)) ts k.0 tt k.1 in
    good-closed at (end_of op) (parts a.term + parts k.0.said.term + 1) k.0.rest (over_set op a k.0.said) (λ c h. fit-over op i.1 r g.sort h) k.2
    (omega (arith, g.short, body-light op))
fits at (suc n) Item ts x r e =
    let i = step-inv (read at n (All levels.Sum) ts) (λ y. read at n (Range y.said) y.rest) e in
    let g = fits at n (All levels.Sum) ts i.0 tt i.1 in
    let h = fits at n (Range i.0.said) i.0.rest x g.sort i.2 in
    record { sort = h.sort; short = omega (arith, g.short, h.short) }
fits at (suc n) (Range a) ts x r e =
    cases-go (behind_sign signs.To ts) (only_by a.sort a >>= λ b. found b ts)
    (λ after. if ends_item after then (between a how_many >>= λ b. found b after) else
    (read at n (All levels.Sum) after >>= λ y. between a y.said >>= λ b. found b y.rest)) e
    (λ none f. good-made (parts a.term + 1) ts (only_by a.sort a) (λ c h. fit-only a.sort r h) f (omega arith))
    (λ after some f. ranged after (ends_item after) (fits at n (All levels.Sum) after) some f)
  where
    ranged : (after : List Token) (so : Bool) → ((y : Found) → Unit {0} → read at n (All levels.Sum) after ≡ Some y → IsGood at (All levels.Sum) after y)
        → behind_sign signs.To ts ≡ Some after
        → (if so then (between a how_many >>= λ b. found b after) else (read at n (All levels.Sum) after >>= λ y. between a y.said >>= λ b. found b y.rest))
        ≡ Some x
        → IsGood at (Range a) ts x
    ranged after true sum some f =
        good-made (parts a.term + 1 + 1) after (between a how_many) (λ c h. fit-between r (how-many-is-typed at) h) f
        (omega (arith, sign-shorter signs.To ts some))
    ranged after false sum some f =
        let i = step-inv (read at n (All levels.Sum) after) (λ y. between a y.said >>= λ b. found b y.rest) f in
        let g = sum i.0 tt i.1 in
        good-made (parts a.term + parts i.0.said.term + 1) i.0.rest (between a i.0.said) (λ c h. fit-between r g.sort h) i.2
        (omega (arith, g.short, sign-shorter signs.To ts some))

-- what a call reads is of its sort, and short
module _ (at : Context) (next : Next) (ts : List Token) where
  pub read-sorted : IsReady at next → (result : Result (Typed × Bor (List Token)) Unread) → Reads at next ts result
      → IfOk result (λ r. tree_sort at.definition at.scope at.within (term_of r.0.tree) ≡ Some r.0.sort)
  read-sorted ready (Ok r) a = (fits at _ next ts (found_by r) ready (a.runs (suc (steps next ts)) (omega arith))).sort.is
  read-sorted ready (Err e) a = tt

  pub read-few : IsReady at next → weight next ≡ 0 → (result : Result (Typed × Bor (List Token)) Unread) → Reads at next ts result
      → IfOk result (λ r. 2 * parts (term_of r.0.tree) + 3 * length r.1.now < 3 * length ts)
  read-few ready light (Ok r) a =
      let g = fits at _ next ts (found_by r) ready (a.runs (suc (steps next ts)) (omega arith)) in
      omega (arith, g.short, light)
  read-few ready light (Err e) a = tt
