-- An expression that is written with every bracket is read back.
use Rattle.std.proofs.Common.{◌≡◌, ℕ, suc, ◌<◌, Bool, true, false, not, ◌&&◌, ◌==◌, List, [], ◌∷◌, codes, Option, Some, None, refl, sym, ap, ◌∙◌, subst, arith}
use Rattle.std.specs.Prelude.{slice_get, if◌then◌else◌}
use Rattle.std.specs.Str.{bytes_eq}
use Rattle.std.proofs.lemmas.Bool.{and_parts, eqb-true, false≢true}
use Rattle.std.proofs.lemmas.Option.{none-some}
use Rattle.std.proofs.lemmas.Slice.Eq.{bytes_eq-Decides}
use Rattle.lf_rules.specs.Terms.{Term}
use Rattle.lf_rules.specs.Terms as terms
use Rattle.lf_rules.specs.Sorts.{same_sort, is_of, where_so, names_state, has_bodies, leaf_sort, row_sort, taken, gives, unary_sort, alike, takes, made}
use Rattle.lf_rules.specs.Sorts.{binary_sort, at_sort, body_of, comes_of, over_sort, tree_sort}
use Rattle.lf_rules.specs.declared.expr.Leaf.{Leaf}
use Rattle.lf_rules.specs.declared.expr.Leaf.TheVariants as leaves
use Rattle.lf_rules.specs.declared.expr.Unary.{Unary}
use Rattle.lf_rules.specs.declared.expr.Unary.TheVariants as ones
use Rattle.lf_rules.specs.declared.expr.Binary.{Binary}
use Rattle.lf_rules.specs.declared.expr.Binary.TheVariants as twos
use Rattle.lf_rules.specs.declared.expr.Row.{Row}
use Rattle.lf_rules.specs.declared.expr.Row.TheVariants as rows
use Rattle.lf_rules.specs.declared.expr.Over.{Over}
use Rattle.lf_rules.specs.declared.expr.Over.TheVariants as overs
use Rattle.lf_rules.specs.declared.sort.Within.{Within}
use Rattle.lf_rules.specs.declared.sort.Within.TheVariants as withins
use Rattle.lf_rules.specs.declared.sort.Sort.{Sort}
use Rattle.lf_rules.specs.declared.sort.Sort.TheVariants as sorts
use Rattle.lf_grammar.specs.declared.sign.Sign.TheVariants as signs
use Rattle.lf_grammar.specs.declared.token.Token.{Token}
use Rattle.lf_grammar.specs.declared.token.Token.TheVariants as tokens
use Rattle.lf_grammar.specs.declared.level.Level.TheVariants as levels
use Rattle.lf_grammar.specs.declared.level.Joint.TheVariants as joints
use Rattle.lf_grammar.specs.declared.calls.Call.{Call}
use Rattle.lf_grammar.specs.declared.calls.Call.TheVariants as calls
use Rattle.lf_grammar.specs.Places.{Context, in_body, in_case, body_at, leaf_of, row_of}
use Rattle.lf_grammar.specs.Typing.{Said, ◌>>=◌, typed, by_one, by_two, at_place, over_set, as_set, set_by, plus_by, minus_by}
use Rattle.lf_grammar.specs.Fronts.{behind_word, behind_sign, ends_item, called, of_body, level_of}
use Rattle.lf_grammar.specs.Expressions.{Found, found, Begin, Alone, Named, Called, Next, All, Atom, Behind}
use Rattle.lf_grammar.specs.Expressions.{begins, begins_word, call_or_nothing, number_in_case}
use Rattle.lf_grammar.specs.Expressions.{constant_never_0, divisor, divisor_named, first_divisor, first_truth, steps}
use Rattle.lf_grammar.specs.Bracketed.{written, bracketed, leaf_of_row, IsNamed, IsDivisor, IsSecond, IsRow, IsWritable, IsPlain}
use Rattle.lf_grammar.proofs.Typings.{some-same}
use Rattle.lf_grammar.proofs.Sure.{IsSure, sure-enough, sure-atom, sure-alone, sure-named, sure-placed, sure-round, sure-empty, sure-call, sure-call-of-two}
use Rattle.lf_grammar.proofs.Sure.{sure-remainder, sure-plain-sum, sure-comparing, sure-not, sure-or, sure-and-of-two, sure-or-of-two, sure-set-of-one}
use Rattle.lf_grammar.proofs.Sure.{sure-set-between, sure-sum, sure-sum-of-two, sure-call-of-body, sure-set-where}

-- ---- sorts

same-sorts : (a b : Sort) → same_sort a b ≡ true → a ≡ b
same-sorts sorts.Number sorts.Number h = refl
same-sorts sorts.Truth sorts.Truth h = refl
same-sorts sorts.Nodes sorts.Nodes h = refl
same-sorts (sorts.Word a) (sorts.Word b) h = ap sorts.Word (eqb-true a b h)
same-sorts one other h = absurd (false≢true h)

of-sort : (o : Option Sort) (sort : Sort) → is_of o sort ≡ true → o ≡ Some sort
of-sort None sort h = absurd (false≢true h)
of-sort (Some a) sort h = ap Some (same-sorts a sort h)

so-inv : (so : Bool) (o : Option Sort) (sort : Sort) → where_so so o ≡ Some sort → (so ≡ true) × (o ≡ Some sort)
so-inv true o sort h = (refl, h)
so-inv false o sort h = absurd (none-some _ h)

record IsOne (op : Unary) (o : Option Sort) (sort : Sort) : Type 0 where
  pub takes : o ≡ Some (taken op)
  pub gives : gives op ≡ sort

one-inv : (op : Unary) (o : Option Sort) (sort : Sort) → unary_sort op o ≡ Some sort → IsOne op o sort
one-inv op o sort h =
    let i = so-inv (is_of o (taken op)) (Some (gives op)) sort h in
    record { takes = of-sort o (taken op) i.0; gives = some-same i.1 }

-- what two values are that an operator takes
record AreTwo (op : Binary) (o p : Option Sort) (sort : Sort) : Type 0 where
  pub one : Sort
  pub other : Sort
  pub is_one : o ≡ Some one
  pub is_other : p ≡ Some other
  pub takes : takes op (Some one) (Some other) ≡ true
  pub made : made op ≡ sort

never-and : (b : Bool) → (b && false) ≡ true → ⊥
never-and true h = false≢true h
never-and false h = false≢true h

nothing-first : (op : Binary) (p : Option Sort) → takes op None p ≡ true → ⊥
nothing-first twos.Equal None h = false≢true h
nothing-first twos.Equal (Some s) h = false≢true h
nothing-first twos.And p h = false≢true h
nothing-first twos.Or p h = false≢true h
nothing-first twos.In p h = false≢true h
nothing-first twos.Union p h = false≢true h
nothing-first twos.Without p h = false≢true h
nothing-first twos.Majority p h = false≢true h
nothing-first other p h = false≢true h

nothing-second : (op : Binary) (o : Option Sort) → takes op o None ≡ true → ⊥
nothing-second twos.Equal o h = false≢true h
nothing-second twos.And o h = never-and (is_of o sorts.Truth) h
nothing-second twos.Or o h = never-and (is_of o sorts.Truth) h
nothing-second twos.In o h = never-and (is_of o sorts.Number) h
nothing-second twos.Union o h = never-and (is_of o sorts.Nodes) h
nothing-second twos.Without o h = never-and (is_of o sorts.Nodes) h
nothing-second twos.Majority o h = never-and (is_of o sorts.Nodes) h
nothing-second other o h = never-and (is_of o sorts.Number) h

two-inv : (op : Binary) (o p : Option Sort) (sort : Sort) → binary_sort op o p ≡ Some sort → AreTwo op o p sort
two-inv op o p sort h =
    let i = so-inv (takes op o p) (Some (made op)) sort h in
    by_sorts o p i.0 (some-same i.1)
  where
    by_sorts : (o p : Option Sort) → takes op o p ≡ true → made op ≡ sort → AreTwo op o p sort
    by_sorts None p t m = absurd (nothing-first op p t)
    by_sorts (Some a) None t m = absurd (nothing-second op (Some a) t)
    by_sorts (Some a) (Some b) t m = record { one = a; other = b; is_one = refl; is_other = refl; takes = t; made = m }

-- what a set and a body are, where something comes of them
record AreOver (op : Over) (o p : Option Sort) (sort : Sort) : Type 0 where
  pub set : o ≡ Some sorts.Nodes
  pub body : p ≡ Some (body_of op)
  pub made : comes_of op ≡ sort

over-inv : (op : Over) (o p : Option Sort) (sort : Sort) → over_sort op o p ≡ Some sort → AreOver op o p sort
over-inv op o p sort h =
    let i = so-inv (is_of o sorts.Nodes && is_of p (body_of op)) (Some (comes_of op)) sort h in
    let both = and_parts (is_of o sorts.Nodes) (is_of p (body_of op)) i.0 in
    record { set = of-sort o sorts.Nodes both.0; body = of-sort p (body_of op) both.1; made = some-same i.1 }

abbrev said_as : Term → Sort → Said
said_as e sort = record { term = e; sort = sort }

-- what an operator makes of values that it takes
made-two : (op : Binary) (a b : Term) (s t : Sort) → takes op (Some s) (Some t) ≡ true
    → by_two op (said_as a s) (said_as b t) ≡ Some (said_as (terms.Binary op a b) (made op))
made-two op a b s t h = ap (λ so. typed (terms.Binary op a b) (where_so so (Some (made op)))) h

-- ---- what comes first

record Starts (ts : List Token) : Type 0 where
  pub word : behind_word (codes "not") ts ≡ None
  pub sign : behind_sign signs.CloseCurly ts ≡ None
  pub item : ends_item ts ≡ false

starts-number : (n : ℕ) (ts : List Token) → Starts (tokens.Number n ∷ ts)
starts-number n ts = record { word = refl; sign = refl; item = refl }

starts-round : (ts : List Token) → Starts (tokens.Sign signs.OpenRound ∷ ts)
starts-round ts = record { word = refl; sign = refl; item = refl }

starts-curly : (ts : List Token) → Starts (tokens.Sign signs.OpenCurly ∷ ts)
starts-curly ts = record { word = refl; sign = refl; item = refl }

starts-word : (word : List ℕ) (ts : List Token) → bytes_eq word (codes "not") ≡ false → Starts (tokens.Word word ∷ ts)
starts-word word ts h = record { word = ap (λ b. if b then Some ts else None) h; sign = refl; item = refl }

module _ (at : Context) (name : Leaf → List ℕ) (plain : IsPlain at) where
  no-denial : (word : List ℕ) (x : Leaf) → leaf_of at.fields at.names word ≡ Some x → bytes_eq word (codes "not") ≡ false
  no-denial word x named = by_test (bytes_eq word (codes "not")) refl
    where
      by_test : (b : Bool) → bytes_eq word (codes "not") ≡ b → bytes_eq word (codes "not") ≡ false
      by_test false is = is
      by_test true is =
          let same : word ≡ codes "not" = (bytes_eq-Decides word (codes "not")).0 is in
          absurd (none-some _ (sym plain.denial ∙ ap (leaf_of at.fields at.names) (sym same) ∙ named))

  starts-named : (x : Leaf) (ts : List Token) → leaf_of at.fields at.names (name x) ≡ Some x → Starts (tokens.Word (name x) ∷ ts)
  starts-named x ts named = starts-word (name x) ts (no-denial (name x) x named)

  starts : (e : Term) (rest : List Token) → IsWritable name at e → Starts (written name e rest)
  starts (terms.Leaf (leaves.Number n)) rest w = starts-number n rest
  starts (terms.Leaf leaves.Empty) rest w = starts-curly (tokens.Sign signs.CloseCurly ∷ rest)
  starts (terms.Leaf (leaves.Truth b)) rest w = starts-named (leaves.Truth b) rest w
  starts (terms.Leaf (leaves.Word of word)) rest w = starts-named (leaves.Word of word) rest w
  starts (terms.Leaf leaves.Nodes) rest w = starts-named leaves.Nodes rest w
  starts (terms.Leaf leaves.All) rest w = starts-named leaves.All rest w
  starts (terms.Leaf (leaves.Given i)) rest w = starts-named (leaves.Given i) rest w
  starts (terms.Leaf leaves.Me) rest w = starts-named leaves.Me rest w
  starts (terms.Leaf leaves.Step) rest w = starts-named leaves.Step rest w
  starts (terms.Leaf leaves.Sender) rest w = starts-named leaves.Sender rest w
  starts (terms.Leaf (leaves.Field i)) rest w = starts-named (leaves.Field i) rest w
  starts (terms.Leaf (leaves.Variable i)) rest w = starts-named (leaves.Variable i) rest w
  starts (terms.Leaf leaves.Clamped) rest w = starts-named leaves.Clamped rest w
  starts (terms.Leaf leaves.Replaced) rest w = starts-named leaves.Replaced rest w
  starts (terms.Leaf (leaves.Let i)) rest w = starts-named (leaves.Let i) rest w
  starts (terms.Leaf (leaves.Fact i)) rest w = starts-named (leaves.Fact i) rest w
  starts (terms.Leaf leaves.It) rest w = starts-named leaves.It rest w
  starts (terms.Unary ones.Not a) rest w = starts-round _
  starts (terms.Unary ones.Count a) rest w = starts-word (codes "count") _ refl
  starts (terms.Unary ones.Lowest a) rest w = starts-word (codes "lowest") _ refl
  starts (terms.Unary ones.Highest a) rest w = starts-word (codes "highest") _ refl
  starts (terms.Unary ones.Only a) rest w = starts-curly _
  starts (terms.Binary twos.Smaller a b) rest w = starts-word (codes "min") _ refl
  starts (terms.Binary twos.Larger a b) rest w = starts-word (codes "max") _ refl
  starts (terms.Binary twos.Majority a b) rest w = starts-word (codes "majority") _ refl
  starts (terms.Binary twos.Between a b) rest w = starts-curly _
  starts (terms.Binary twos.Add a b) rest w = starts-round _
  starts (terms.Binary twos.Subtract a b) rest w = starts-round _
  starts (terms.Binary twos.Remainder a b) rest w = starts-round _
  starts (terms.Binary twos.Equal a b) rest w = starts-round _
  starts (terms.Binary twos.Less a b) rest w = starts-round _
  starts (terms.Binary twos.AtMost a b) rest w = starts-round _
  starts (terms.Binary twos.And a b) rest w = starts-round _
  starts (terms.Binary twos.Or a b) rest w = starts-round _
  starts (terms.Binary twos.In a b) rest w = starts-round _
  starts (terms.Binary twos.Union a b) rest w = starts-round _
  starts (terms.Binary twos.Without a b) rest w = starts-round _
  starts (terms.At (rows.Table t) a) rest w = starts-named (leaves.Variable t.of) _ w.0.0
  starts (terms.At (rows.Given i) a) rest w = starts-named (leaves.Given i) _ w.0.0
  starts (terms.Over overs.Those a b) rest w = starts-curly _
  starts (terms.Over overs.Least a b) rest w = starts-word (codes "min") _ refl
  starts (terms.Over overs.Greatest a b) rest w = starts-word (codes "max") _ refl

  -- ---- what is read of it

  -- where it stands, by what `it` is there
  abbrev inside : Within → Context
  inside within = record { definition = at.definition; fields = at.fields; names = at.names; scope = at.scope; within = within }

  -- an atom that an expression is, where no bracket follows it
  abbrev IsBack : Within → Term → Sort → Type 0
  IsBack within e sort =
      (rest : List Token) → behind_sign signs.OpenSquare rest ≡ None → IsSure (inside within) Atom (written name e rest) (found (said_as e sort) rest)

  module _ (within : Within) where
    named-back : (x : Leaf) (sort : Sort) (rest : List Token) → leaf_of at.fields at.names (name x) ≡ Some x
        → leaf_sort at.definition at.scope within x ≡ Some sort → behind_sign signs.OpenSquare rest ≡ None
        → IsSure (inside within) Atom (tokens.Word (name x) ∷ rest) (found (said_as (terms.Leaf x) sort) rest)
    named-back x sort rest named sorted end =
        let begin : begins (inside within) (tokens.Word (name x)) ≡ Named (Some (said_as (terms.Leaf x) sort)) (row_of at.definition x) =
        ap (begins_word (inside within) (name x)) named ∙ ap (λ o. Named (typed (terms.Leaf x) o) (row_of at.definition x)) sorted in
        sure-atom (subst (λ (b : Begin). IsSure (inside within) (Behind b) rest (found (said_as (terms.Leaf x) sort) rest)) (sym begin) (sure-named end))

    call-back : {ts : List Token} {o : Option Found} (word : List ℕ) (call : Call) → leaf_of at.fields at.names word ≡ None → called word ≡ Some call
        → IsSure (inside within) (Behind (Called call)) ts o → IsSure (inside within) Atom (tokens.Word word ∷ ts) o
    call-back {ts} {o} word call none is s =
        let begin : begins (inside within) (tokens.Word word) ≡ Called call = ap (begins_word (inside within) word) none ∙ ap call_or_nothing is in
        sure-atom (subst (λ (b : Begin). IsSure (inside within) (Behind b) ts o) (sym begin) s)

    -- the item at a place
    place-back : (row : Row) (a : Term) (sort : Sort) → IsRow name at row → row_sort at.definition at.scope row ≡ Some sort
        → IsBack within a sorts.Number → IsBack within (terms.At row a) sort
    place-back row a sort w sorted back rest end = by_name (leaf_of_row row) (named-row row w.0) w.1
      where
        named-row : (row : Row) → IsNamed name at (leaf_of_row row) → leaf_of at.fields at.names (name (leaf_of_row row)) ≡ Some (leaf_of_row row)
        named-row (rows.Table t) w = w
        named-row (rows.Given i) w = w

        by_name : (x : Leaf) → leaf_of at.fields at.names (name x) ≡ Some x → row_of at.definition x ≡ Some row
            → IsSure (inside within) Atom
            (tokens.Word (name x) ∷ tokens.Sign signs.OpenSquare ∷ written name a (tokens.Sign signs.CloseSquare ∷ rest))
            (found (said_as (terms.At row a) sort) rest)
        by_name x named is =
            let begin : begins (inside within) (tokens.Word (name x)) ≡ Named (typed (terms.Leaf x) (leaf_sort at.definition at.scope within x)) (Some row) =
            ap (begins_word (inside within) (name x)) named ∙ ap (Named (typed (terms.Leaf x) (leaf_sort at.definition at.scope within x))) is in
            sure-atom (subst (λ (b : Begin). IsSure (inside within) (Behind b)
            (tokens.Sign signs.OpenSquare ∷ written name a (tokens.Sign signs.CloseSquare ∷ rest)) (found (said_as (terms.At row a) sort) rest)) (sym begin)
            (sure-placed (sure-sum (back _ refl) refl refl) (ap (typed (terms.At row a)) sorted)))

    -- a set and a body, where a body may stand
    module _ (a b : Term) (w : IsWritable name at a) (v : IsWritable name at b) (stands : (names_state at.scope && has_bodies within) ≡ true)
        (set : IsBack within a sorts.Nodes) where
      opened : body_at (inside within) ≡ Some (inside withins.Body)
      opened = ap (λ so. in_case so (inside withins.Body)) stands

      those-back : IsBack withins.Body b sorts.Truth → IsBack within (terms.Over overs.Those a b) sorts.Nodes
      those-back body rest end =
          sure-atom (sure-set-where opened (starts a _ w).sign (sure-sum (set _ refl) refl refl)
          (sure-or (sure-plain-sum (starts b _ v).word (sure-sum (body _ refl) refl refl) refl) refl refl) refl)

      least-back : IsBack withins.Body b sorts.Number → IsBack within (terms.Over overs.Least a b) sorts.Number
      least-back body rest end =
          call-back (codes "min") (calls.OfTwo twos.Smaller) plain.smaller refl
          (sure-call-of-body {op = overs.Least} opened refl (sure-sum (set _ refl) refl refl) (sure-sum (body _ refl) refl refl) refl refl)

      greatest-back : IsBack withins.Body b sorts.Number → IsBack within (terms.Over overs.Greatest a b) sorts.Number
      greatest-back body rest end =
          call-back (codes "max") (calls.OfTwo twos.Larger) plain.larger refl
          (sure-call-of-body {op = overs.Greatest} opened refl (sure-sum (set _ refl) refl refl) (sure-sum (body _ refl) refl refl) refl refl)

      over-back : (op : Over) → IsBack withins.Body b (body_of op) → IsBack within (terms.Over op a b) (comes_of op)
      over-back overs.Those body = those-back body
      over-back overs.Least body = least-back body
      over-back overs.Greatest body = greatest-back body

    leaf-back : (x : Leaf) (sort : Sort) → IsNamed name at x → leaf_sort at.definition at.scope within x ≡ Some sort → IsBack within (terms.Leaf x) sort
    leaf-back (leaves.Number n) sort w s rest end =
        subst (λ (z : Sort). IsSure (inside within) Atom (tokens.Number n ∷ rest) (found (said_as (terms.Leaf (leaves.Number n)) z) rest)) (some-same s)
        (sure-atom sure-alone)
    leaf-back leaves.Empty sort w s rest end =
        subst (λ (z : Sort). IsSure (inside within) Atom (written name (terms.Leaf leaves.Empty) rest) (found (said_as (terms.Leaf leaves.Empty) z) rest))
        (some-same s) (sure-atom sure-empty)
    leaf-back (leaves.Truth b) sort w s rest end = named-back (leaves.Truth b) sort rest w s end
    leaf-back (leaves.Word of word) sort w s rest end = named-back (leaves.Word of word) sort rest w s end
    leaf-back leaves.Nodes sort w s rest end = named-back leaves.Nodes sort rest w s end
    leaf-back leaves.All sort w s rest end = named-back leaves.All sort rest w s end
    leaf-back (leaves.Given i) sort w s rest end = named-back (leaves.Given i) sort rest w s end
    leaf-back leaves.Me sort w s rest end = named-back leaves.Me sort rest w s end
    leaf-back leaves.Step sort w s rest end = named-back leaves.Step sort rest w s end
    leaf-back leaves.Sender sort w s rest end = named-back leaves.Sender sort rest w s end
    leaf-back (leaves.Field i) sort w s rest end = named-back (leaves.Field i) sort rest w s end
    leaf-back (leaves.Variable i) sort w s rest end = named-back (leaves.Variable i) sort rest w s end
    leaf-back leaves.Clamped sort w s rest end = named-back leaves.Clamped sort rest w s end
    leaf-back leaves.Replaced sort w s rest end = named-back leaves.Replaced sort rest w s end
    leaf-back (leaves.Let i) sort w s rest end = named-back (leaves.Let i) sort rest w s end
    leaf-back (leaves.Fact i) sort w s rest end = named-back (leaves.Fact i) sort rest w s end
    leaf-back leaves.It sort w s rest end = named-back leaves.It sort rest w s end

    one-back : (op : Unary) (a : Term) → IsWritable name at a → IsBack within a (taken op) → IsBack within (terms.Unary op a) (gives op)
    one-back ones.Not a w back rest end =
        sure-atom (sure-round (sure-or (sure-not (sure-plain-sum (starts a _ w).word (sure-sum (back _ refl) refl refl) refl) refl) refl refl))
    one-back ones.Count a w back rest end =
        call-back (codes "count") (calls.Of ones.Count) plain.count refl (sure-call (sure-sum (back _ refl) refl refl) refl)
    one-back ones.Lowest a w back rest end =
        call-back (codes "lowest") (calls.Of ones.Lowest) plain.lowest refl (sure-call (sure-sum (back _ refl) refl refl) refl)
    one-back ones.Highest a w back rest end =
        call-back (codes "highest") (calls.Of ones.Highest) plain.highest refl (sure-call (sure-sum (back _ refl) refl refl) refl)
    one-back ones.Only a w back rest end = sure-atom (sure-set-of-one (starts a _ w).sign (sure-sum (back _ refl) refl refl) refl)

    module _ (a b : Term) (s t : Sort) (one : IsWritable name at a) (other : IsWritable name at b) (first : IsBack within a s)
        (second : IsBack within b t) where
      -- two values with a sign between that compares them, or with `and` or `or`
      equal-back : takes twos.Equal (Some s) (Some t) ≡ true → IsBack within (terms.Binary twos.Equal a b) sorts.Truth
      equal-back h rest end =
          sure-atom (sure-round (sure-or (sure-comparing (starts a _ one).word (sure-sum (first _ refl) refl refl) refl (sure-sum (second _ refl) refl refl)
          (made-two twos.Equal a b s t h)) refl refl))

      less-back : takes twos.Less (Some s) (Some t) ≡ true → IsBack within (terms.Binary twos.Less a b) sorts.Truth
      less-back h rest end =
          sure-atom (sure-round (sure-or (sure-comparing (starts a _ one).word (sure-sum (first _ refl) refl refl) refl (sure-sum (second _ refl) refl refl)
          (made-two twos.Less a b s t h)) refl refl))

      at-most-back : takes twos.AtMost (Some s) (Some t) ≡ true → IsBack within (terms.Binary twos.AtMost a b) sorts.Truth
      at-most-back h rest end =
          sure-atom (sure-round (sure-or (sure-comparing (starts a _ one).word (sure-sum (first _ refl) refl refl) refl (sure-sum (second _ refl) refl refl)
          (made-two twos.AtMost a b s t h)) refl refl))

      in-back : takes twos.In (Some s) (Some t) ≡ true → IsBack within (terms.Binary twos.In a b) sorts.Truth
      in-back h rest end =
          sure-atom (sure-round (sure-or (sure-comparing (starts a _ one).word (sure-sum (first _ refl) refl refl) refl (sure-sum (second _ refl) refl refl)
          (made-two twos.In a b s t h)) refl refl))

      and-back : takes twos.And (Some s) (Some t) ≡ true → IsBack within (terms.Binary twos.And a b) sorts.Truth
      and-back h rest end =
          sure-atom (sure-round (sure-and-of-two (sure-plain-sum (starts a _ one).word (sure-sum (first _ refl) refl refl) refl) refl
          (sure-plain-sum (starts b _ other).word (sure-sum (second _ refl) refl refl) refl) refl refl (made-two twos.And a b s t h)))

      or-back : takes twos.Or (Some s) (Some t) ≡ true → IsBack within (terms.Binary twos.Or a b) sorts.Truth
      or-back h rest end =
          sure-atom (sure-round (sure-or-of-two (sure-plain-sum (starts a _ one).word (sure-sum (first _ refl) refl refl) refl) refl refl
          (sure-plain-sum (starts b _ other).word (sure-sum (second _ refl) refl refl) refl) refl refl (made-two twos.Or a b s t h)))

      -- two values with a sign between that adds or takes away
      add-back : takes twos.Add (Some s) (Some t) ≡ true → IsBack within (terms.Binary twos.Add a b) sorts.Number
      add-back h rest end =
          let number = same-sorts s sorts.Number (and_parts (same_sort s sorts.Number) (same_sort t sorts.Number) h).0 in
          sure-atom (sure-round (sure-or (sure-plain-sum (starts a _ one).word (sure-sum-of-two {by = joints.Plus} (first _ refl) refl refl
          (second _ refl) refl refl (ap (λ z. plus_by z (said_as a s) (said_as b t)) number ∙ made-two twos.Add a b s t h)) refl) refl refl))

      subtract-back : takes twos.Subtract (Some s) (Some t) ≡ true → IsBack within (terms.Binary twos.Subtract a b) sorts.Number
      subtract-back h rest end =
          let number = same-sorts s sorts.Number (and_parts (same_sort s sorts.Number) (same_sort t sorts.Number) h).0 in
          sure-atom (sure-round (sure-or (sure-plain-sum (starts a _ one).word (sure-sum-of-two {by = joints.Minus} (first _ refl) refl refl
          (second _ refl) refl refl (ap (λ z. minus_by z (said_as a s) (said_as b t)) number ∙ made-two twos.Subtract a b s t h)) refl) refl refl))

      union-back : takes twos.Union (Some s) (Some t) ≡ true → IsBack within (terms.Binary twos.Union a b) sorts.Nodes
      union-back h rest end =
          let both = and_parts (same_sort s sorts.Nodes) (same_sort t sorts.Nodes) h in
          let set : as_set (said_as b t) ≡ Some (said_as b t) = ap (λ z. set_by z (said_as b t)) (same-sorts t sorts.Nodes both.1) in
          sure-atom (sure-round (sure-or (sure-plain-sum (starts a _ one).word (sure-sum-of-two {by = joints.Plus} (first _ refl) refl refl
          (second _ refl) refl refl (ap (λ z. plus_by z (said_as a s) (said_as b t)) (same-sorts s sorts.Nodes both.0)
          ∙ ap (λ o. o >>= λ c. by_two twos.Union (said_as a s) c) set ∙ made-two twos.Union a b s t h)) refl) refl refl))

      without-back : takes twos.Without (Some s) (Some t) ≡ true → IsBack within (terms.Binary twos.Without a b) sorts.Nodes
      without-back h rest end =
          let both = and_parts (same_sort s sorts.Nodes) (same_sort t sorts.Nodes) h in
          let set : as_set (said_as b t) ≡ Some (said_as b t) = ap (λ z. set_by z (said_as b t)) (same-sorts t sorts.Nodes both.1) in
          sure-atom (sure-round (sure-or (sure-plain-sum (starts a _ one).word (sure-sum-of-two {by = joints.Minus} (first _ refl) refl refl
          (second _ refl) refl refl (ap (λ z. minus_by z (said_as a s) (said_as b t)) (same-sorts s sorts.Nodes both.0)
          ∙ ap (λ o. o >>= λ c. by_two twos.Without (said_as a s) c) set ∙ made-two twos.Without a b s t h)) refl) refl refl))

      -- calls of two, and the nodes from one to the other
      smaller-back : takes twos.Smaller (Some s) (Some t) ≡ true → IsBack within (terms.Binary twos.Smaller a b) sorts.Number
      smaller-back h rest end =
          call-back (codes "min") (calls.OfTwo twos.Smaller) plain.smaller refl
          (sure-call-of-two (sure-sum (first _ refl) refl refl) (sure-sum (second _ refl) refl refl) (made-two twos.Smaller a b s t h))

      larger-back : takes twos.Larger (Some s) (Some t) ≡ true → IsBack within (terms.Binary twos.Larger a b) sorts.Number
      larger-back h rest end =
          call-back (codes "max") (calls.OfTwo twos.Larger) plain.larger refl
          (sure-call-of-two (sure-sum (first _ refl) refl refl) (sure-sum (second _ refl) refl refl) (made-two twos.Larger a b s t h))

      majority-back : takes twos.Majority (Some s) (Some t) ≡ true → IsBack within (terms.Binary twos.Majority a b) sorts.Truth
      majority-back h rest end =
          call-back (codes "majority") calls.Majority plain.majority refl
          (sure-call-of-two (sure-sum (first _ refl) refl refl) (sure-sum (second _ refl) refl refl) (made-two twos.Majority a b s t h))

      between-back : takes twos.Between (Some s) (Some t) ≡ true → IsBack within (terms.Binary twos.Between a b) sorts.Nodes
      between-back h rest end =
          sure-atom (sure-set-between (starts a _ one).sign (sure-sum (first _ refl) refl refl) (starts b _ other).item (sure-sum (second _ refl) refl refl)
          (made-two twos.Between a b s t h))

      -- a divisor
      divisor-back : (rest : List Token) → IsDivisor name at b → t ≡ sorts.Number → tree_sort at.definition at.scope within b ≡ Some t
          → first_divisor (inside within) (written name b rest) ≡ found (said_as b t) rest
      divisor-back rest d number sorted = by_term b other d sorted
        where
          as_number : (e : Term) → first_divisor (inside within) (written name e rest) ≡ found (said_as e sorts.Number) rest
              → first_divisor (inside within) (written name e rest) ≡ found (said_as e t) rest
          as_number e h = h ∙ ap (λ (z : Sort). found (said_as e z) rest) (sym number)

          by_term : (e : Term) → IsWritable name at e → IsDivisor name at e → tree_sort at.definition at.scope within e ≡ Some t
              → first_divisor (inside within) (written name e rest) ≡ found (said_as e t) rest
          by_term (terms.Leaf (leaves.Number n)) w d s =
              as_number (terms.Leaf (leaves.Number n)) (ap (λ so. number_in_case so (leaves.Number n) >>= λ x. found x rest) d)
          by_term (terms.Leaf leaves.Nodes) w d s =
              as_number (terms.Leaf leaves.Nodes) (ap (λ o. divisor_named (inside within) o >>= λ x. found x rest) w)
          by_term (terms.Leaf (leaves.Given i)) w d s =
              let so : (is_of (leaf_sort at.definition at.scope within (leaves.Given i)) sorts.Number && constant_never_0 (slice_get at.definition.given i))
              ≡ true =
              ap (λ o. is_of o sorts.Number && constant_never_0 (slice_get at.definition.given i)) (s ∙ ap Some number) ∙ d in
              as_number (terms.Leaf (leaves.Given i))
              (ap (λ o. divisor_named (inside within) o >>= λ x. found x rest) w ∙ ap (λ b. number_in_case b (leaves.Given i) >>= λ x. found x rest) so)
          by_term other w d s = absurd d

      remainder-back : takes twos.Remainder (Some s) (Some t) ≡ true → IsDivisor name at b → tree_sort at.definition at.scope within b ≡ Some t
          → IsBack within (terms.Binary twos.Remainder a b) sorts.Number
      remainder-back h d sorted rest end =
          let number = same-sorts t sorts.Number (and_parts (same_sort s sorts.Number) (same_sort t sorts.Number) h).1 in
          sure-atom (sure-round (sure-or (sure-plain-sum (starts a _ one).word (sure-remainder (first _ refl) refl
          (divisor-back (tokens.Sign signs.CloseRound ∷ rest) d number sorted) refl refl (made-two twos.Remainder a b s t h)) refl) refl refl))

    two-back : (op : Binary) (a b : Term) (s t : Sort) → IsWritable name at a → IsWritable name at b → IsBack within a s → IsBack within b t
        → takes op (Some s) (Some t) ≡ true → IsSecond name at op b → tree_sort at.definition at.scope within b ≡ Some t
        → IsBack within (terms.Binary op a b) (made op)
    two-back twos.Add a b s t one other first second h d sorted = add-back a b s t one other first second h
    two-back twos.Subtract a b s t one other first second h d sorted = subtract-back a b s t one other first second h
    two-back twos.Smaller a b s t one other first second h d sorted = smaller-back a b s t one other first second h
    two-back twos.Larger a b s t one other first second h d sorted = larger-back a b s t one other first second h
    two-back twos.Remainder a b s t one other first second h d sorted = remainder-back a b s t one other first second h d sorted
    two-back twos.Equal a b s t one other first second h d sorted = equal-back a b s t one other first second h
    two-back twos.Less a b s t one other first second h d sorted = less-back a b s t one other first second h
    two-back twos.AtMost a b s t one other first second h d sorted = at-most-back a b s t one other first second h
    two-back twos.And a b s t one other first second h d sorted = and-back a b s t one other first second h
    two-back twos.Or a b s t one other first second h d sorted = or-back a b s t one other first second h
    two-back twos.In a b s t one other first second h d sorted = in-back a b s t one other first second h
    two-back twos.Union a b s t one other first second h d sorted = union-back a b s t one other first second h
    two-back twos.Without a b s t one other first second h d sorted = without-back a b s t one other first second h
    two-back twos.Between a b s t one other first second h d sorted = between-back a b s t one other first second h
    two-back twos.Majority a b s t one other first second h d sorted = majority-back a b s t one other first second h

  -- every expression
  back : (within : Within) (e : Term) (sort : Sort) → IsWritable name at e → tree_sort at.definition at.scope within e ≡ Some sort → IsBack within e sort
  back within (terms.Leaf x) sort w s = leaf-back within x sort w s
  back within (terms.Unary op a) sort w s =
      let i = one-inv op (tree_sort at.definition at.scope within a) sort s in
      subst (IsBack within (terms.Unary op a)) i.gives (one-back within op a w (back within a (taken op) w i.takes))
  back within (terms.Binary op a b) sort w s =
      let i = two-inv op (tree_sort at.definition at.scope within a) (tree_sort at.definition at.scope within b) sort s in
      subst (IsBack within (terms.Binary op a b)) i.made
      (two-back within op a b i.one i.other w.0 w.1 (back within a i.one w.0 i.is_one) (back within b i.other w.1 i.is_other) i.takes w.2 i.is_other)
  back within (terms.At row a) sort w s =
      let i = so-inv (is_of (tree_sort at.definition at.scope within a) sorts.Number) (row_sort at.definition at.scope row) sort s in
      place-back within row a sort w.0 i.1 (back within a sorts.Number w.1 (of-sort (tree_sort at.definition at.scope within a) sorts.Number i.0))
  back within (terms.Over op a b) sort w s =
      let i = so-inv (names_state at.scope && has_bodies within)
      (over_sort op (tree_sort at.definition at.scope within a) (tree_sort at.definition at.scope withins.Body b)) sort s in
      let k = over-inv op (tree_sort at.definition at.scope within a) (tree_sort at.definition at.scope withins.Body b) sort i.1 in
      subst (IsBack within (terms.Over op a b)) k.made
      (over-back within a b w.0 w.1 i.0 (back within a sorts.Nodes w.0 k.set) op (back withins.Body b (body_of op) w.1 k.body))

  -- and so is the whole text
  pub read-back : (e : Term) (sort : Sort) → IsWritable name at e → tree_sort at.definition at.scope at.within e ≡ Some sort
      → first_truth at (bracketed name e) ≡ found (said_as e sort) []
  unfolding first_truth
  read-back e sort w s =
      sure-enough (suc (steps (All levels.Or) (bracketed name e))) (omega arith)
      (sure-or (sure-plain-sum (starts e [] w).word (sure-sum (back at.within e sort w s [] refl) refl refl) refl) refl refl)
