-- What is read is of its sort, and has fewer than three parts for two tokens.
use Rattle.std.proofs.Common.{◌≡◌, ℕ, ◌+◌, ◌≤◌, Bool, true, false, ◌&&◌, Option, Some, None, refl, sym, ap, subst, arith}
use Rattle.std.proofs.lemmas.Option.{none-some}
use Rattle.lf_rules.specs.Terms.{Term}
use Rattle.lf_rules.specs.Terms as terms
use Rattle.lf_rules.specs.Trees.{parts}
use Rattle.lf_rules.specs.Sorts.{names_state, has_bodies, unary_sort, binary_sort, row_sort, at_sort, over_sort, tree_sort}
use Rattle.lf_rules.specs.declared.expr.Unary.{Unary}
use Rattle.lf_rules.specs.declared.expr.Unary.TheVariants as ones
use Rattle.lf_rules.specs.declared.expr.Binary.{Binary}
use Rattle.lf_rules.specs.declared.expr.Binary.TheVariants as twos
use Rattle.lf_rules.specs.declared.expr.Row.{Row}
use Rattle.lf_rules.specs.declared.expr.Over.{Over}
use Rattle.lf_rules.specs.declared.sort.Within.TheVariants as withins
use Rattle.lf_rules.specs.declared.sort.Sort.{Sort}
use Rattle.lf_rules.specs.declared.sort.Sort.TheVariants as sorts
use Rattle.lf_grammar.specs.declared.sign.Sign.TheVariants as signs
use Rattle.lf_grammar.specs.declared.token.Token.{Token}
use Rattle.lf_grammar.specs.declared.token.Token.TheVariants as tokens
use Rattle.lf_grammar.specs.declared.level.Joint.{Joint}
use Rattle.lf_grammar.specs.declared.level.Joint.TheVariants as joints
use Rattle.lf_grammar.specs.declared.calls.Call.{Call}
use Rattle.lf_grammar.specs.declared.calls.Call.TheVariants as calls
use Rattle.lf_grammar.specs.Places.{Context, in_body, in_case, body_at}
use Rattle.lf_grammar.specs.Typing.{Said, ◌>>=◌, typed, by_one, by_two, set_by, as_set, plus_by, minus_by, compared, joined, by_call, only_by, between}
use Rattle.lf_grammar.specs.Typing.{all_nodes, at_place, over_set}

-- ---- what stands before a step

abbrev value_or : {A : Type 0} → A → Option A → A
value_or a None = a
value_or a (Some x) = x

pub some-same : {A : Type 0} {a b : A} → Some a ≡ Some b → a ≡ b
some-same {a = a} e = ap (value_or a) e

pub step-inv : {A B : Type 0} {y : B} (o : Option A) (next : A → Option B) → (o >>= next) ≡ Some y → (x : A) × (o ≡ Some x) × (next x ≡ Some y)
step-inv None next e = absurd (none-some _ e)
step-inv (Some x) next e = (x, refl, e)

pub typed-inv : {c : Said} (term : Term) (sort : Option Sort) → typed term sort ≡ Some c → (c.term ≡ term) × (sort ≡ Some c.sort)
typed-inv term None e = absurd (none-some _ e)
typed-inv term (Some sort) e =
    let same = some-same e in (sym (ap (λ c. c.term) same), ap (λ c. Some c.sort) same)

pub body-inv : {inner : Context} (so : Bool) (at : Context) → in_case so at ≡ Some inner → (so ≡ true) × (at ≡ inner)
body-inv true at e = (refl, some-same e)
body-inv false at e = absurd (none-some _ e)

-- how many parts two values that are joined have beside their own
abbrev pub beside : Joint → ℕ
beside joints.Comma = 1
beside other = 2

module _ (at : Context) where
  -- a value is of its sort where it stands
  pub record IsTyped (a : Said) : Type 0 where
    pub is : tree_sort at.definition at.scope at.within a.term ≡ Some a.sort

  -- it is of its sort, and has so many parts at most
  pub record IsFit (most : ℕ) (c : Said) : Type 0 where
    pub sort : IsTyped c
    pub short : parts c.term ≤ most

module _ {at : Context} where
  pub wider : {n m : ℕ} {c : Said} → IsFit at n c → n ≤ m → IsFit at m c
  wider f h = record { sort = f.sort; short = omega (arith, f.short, h) }

  pub fit-one : {a c : Said} (op : Unary) → IsTyped at a → by_one op a ≡ Some c → IsFit at (parts a.term + 1) c
  fit-one {a} {c} op h e =
      let i = typed-inv (terms.Unary op a.term) (unary_sort op (Some a.sort)) e in
      record { sort = record { is = rw (i.0, h.is) i.1 }; short = rw i.0 (omega arith) }

  pub fit-two : {a b c : Said} (op : Binary) → IsTyped at a → IsTyped at b → by_two op a b ≡ Some c → IsFit at (parts a.term + parts b.term + 1) c
  fit-two {a} {b} {c} op h k e =
      let i = typed-inv (terms.Binary op a.term b.term) (binary_sort op (Some a.sort) (Some b.sort)) e in
      record { sort = record { is = rw (i.0, h.is, k.is) i.1 }; short = rw i.0 (omega arith) }

  -- what stands at a place
  pub fit-at : {a c : Said} (row : Row) → IsTyped at a → at_place at.definition at.scope row a ≡ Some c → IsFit at (parts a.term + 1) c
  fit-at {a} {c} row h e =
      let i = typed-inv (terms.At row a.term) (at_sort (row_sort at.definition at.scope row) (Some a.sort)) e in
      record { sort = record { is = rw (i.0, h.is) i.1 }; short = rw i.0 (omega arith) }

  -- a set and a body, which is of its sort where bodies stand
  pub fit-over : {inner : Context} {a b c : Said} (op : Over) → body_at at ≡ Some inner → IsTyped at a → IsTyped inner b → over_set op a b ≡ Some c
      → IsFit at (parts a.term + parts b.term + 1) c
  fit-over {inner} {a} {b} {c} op within h k e =
      let i = typed-inv (terms.Over op a.term b.term) (over_sort op (Some a.sort) (Some b.sort)) e in
      let w = body-inv (names_state at.scope && has_bodies at.within) (in_body at) within in
      let body : IsTyped (in_body at) b = subst (λ (z : Context). IsTyped z b) (sym w.1) k in
      let sorted : tree_sort at.definition at.scope withins.Body b.term ≡ Some b.sort = body.is in
      record { sort = record { is = rw (i.0, w.0, h.is, sorted) i.1 }; short = rw i.0 (omega arith) }

  pub fit-self : {a c : Said} → IsTyped at a → Some a ≡ Some c → IsFit at (parts a.term + 1) c
  fit-self {a} {c} h e = let same = some-same e in record { sort = rw (sym same) h; short = rw (sym same) (omega arith) }

  pub fit-set : {a c : Said} (sort : Sort) → IsTyped at a → set_by sort a ≡ Some c → IsFit at (parts a.term + 1) c
  fit-set sorts.Number h e = fit-one ones.Only h e
  fit-set sorts.Truth h e = fit-self h e
  fit-set sorts.Nodes h e = fit-self h e
  fit-set (sorts.Word of) h e = fit-self h e

  pub fit-only : {a c : Said} (sort : Sort) → IsTyped at a → only_by sort a ≡ Some c → IsFit at (parts a.term + 1) c
  fit-only sorts.Number h e = fit-one ones.Only h e
  fit-only sorts.Truth h e = absurd (none-some _ e)
  fit-only sorts.Nodes h e = absurd (none-some _ e)
  fit-only (sorts.Word of) h e = absurd (none-some _ e)

  -- a set with what is made a set
  fit-with-set : {a b c : Said} (op : Binary) → IsTyped at a → IsTyped at b → (as_set b >>= λ s. by_two op a s) ≡ Some c
      → IsFit at (parts a.term + parts b.term + 2) c
  fit-with-set {a} {b} {c} op h k e =
      let i = step-inv (as_set b) (λ s. by_two op a s) e in
      let s = fit-set b.sort k i.1 in
      wider (fit-two op h s.sort i.2) (omega (arith, s.short))

  fit-two-more : {a b c : Said} (op : Binary) → IsTyped at a → IsTyped at b → by_two op a b ≡ Some c → IsFit at (parts a.term + parts b.term + 2) c
  fit-two-more op h k e = wider (fit-two op h k e) (omega arith)

  fit-plus : {a b c : Said} (sort : Sort) → IsTyped at a → IsTyped at b → plus_by sort a b ≡ Some c → IsFit at (parts a.term + parts b.term + 2) c
  fit-plus sorts.Nodes h k e = fit-with-set twos.Union h k e
  fit-plus sorts.Number h k e = fit-two-more twos.Add h k e
  fit-plus sorts.Truth h k e = fit-two-more twos.Add h k e
  fit-plus (sorts.Word of) h k e = fit-two-more twos.Add h k e

  fit-minus : {a b c : Said} (sort : Sort) → IsTyped at a → IsTyped at b → minus_by sort a b ≡ Some c → IsFit at (parts a.term + parts b.term + 2) c
  fit-minus sorts.Nodes h k e = fit-with-set twos.Without h k e
  fit-minus sorts.Number h k e = fit-two-more twos.Subtract h k e
  fit-minus sorts.Truth h k e = fit-two-more twos.Subtract h k e
  fit-minus (sorts.Word of) h k e = fit-two-more twos.Subtract h k e

  pub fit-joined : {a b c : Said} (by : Joint) → IsTyped at a → IsTyped at b → joined by a b ≡ Some c → IsFit at (parts a.term + parts b.term + beside by) c
  fit-joined joints.Comma h k e = fit-two twos.Union h k e
  fit-joined joints.Or h k e = fit-two-more twos.Or h k e
  fit-joined joints.And h k e = fit-two-more twos.And h k e
  fit-joined {a} joints.Plus h k e = fit-plus a.sort h k e
  fit-joined {a} joints.Minus h k e = fit-minus a.sort h k e
  fit-joined joints.Remainder h k e = fit-two-more twos.Remainder h k e

  fit-not-two : {a b c : Said} (op : Binary) → IsTyped at a → IsTyped at b → (by_two op a b >>= λ d. by_one ones.Not d) ≡ Some c
      → IsFit at (parts a.term + parts b.term + 2) c
  fit-not-two {a} {b} op h k e =
      let i = step-inv (by_two op a b) (λ d. by_one ones.Not d) e in
      let d = fit-two op h k i.1 in
      wider (fit-one ones.Not d.sort i.2) (omega (arith, d.short))

  fit-turned : {a b c : Said} (op : Binary) → IsTyped at a → IsTyped at b → by_two op b a ≡ Some c → IsFit at (parts a.term + parts b.term + 2) c
  fit-turned op h k e = wider (fit-two op k h e) (omega arith)

  pub fit-compared : {a b c : Said} (by : Token) → IsTyped at a → IsTyped at b → compared by a b ≡ Some c → IsFit at (parts a.term + parts b.term + 2) c
  fit-compared (tokens.Sign signs.Equal) h k e = fit-two-more twos.Equal h k e
  fit-compared (tokens.Sign signs.NotEqual) h k e = fit-not-two twos.Equal h k e
  fit-compared (tokens.Sign signs.Less) h k e = fit-two-more twos.Less h k e
  fit-compared (tokens.Sign signs.AtMost) h k e = fit-two-more twos.AtMost h k e
  fit-compared (tokens.Sign signs.More) h k e = fit-turned twos.Less h k e
  fit-compared (tokens.Sign signs.AtLeast) h k e = fit-turned twos.AtMost h k e
  fit-compared other h k e = fit-two-more twos.In h k e

  fit-all-nodes : IsTyped at all_nodes
  fit-all-nodes = record { is = refl }

  pub fit-call : {a c : Said} (call : Call) → IsTyped at a → by_call call a None ≡ Some c → IsFit at (parts a.term + 2) c
  fit-call (calls.Of op) h e = wider (fit-one op h e) (omega arith)
  fit-call (calls.OfTwo op) h e = absurd (none-some _ e)
  fit-call calls.Majority h e = wider (fit-two twos.Majority h fit-all-nodes e) (omega arith)

  pub fit-call-of-two : {a b c : Said} (call : Call) → IsTyped at a → IsTyped at b → by_call call a (Some b) ≡ Some c
      → IsFit at (parts a.term + parts b.term + 1) c
  fit-call-of-two (calls.Of op) h k e = absurd (none-some _ e)
  fit-call-of-two (calls.OfTwo op) h k e = fit-two op h k e
  fit-call-of-two calls.Majority h k e = fit-two twos.Majority h k e

  pub fit-between : {a b c : Said} → IsTyped at a → IsTyped at b → between a b ≡ Some c → IsFit at (parts a.term + parts b.term + 1) c
  fit-between h k e = fit-two twos.Between h k e
