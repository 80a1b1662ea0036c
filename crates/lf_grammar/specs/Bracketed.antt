-- Expressions as they are written with every bracket.
use Rattle.std.specs.Prelude.{◌≡◌, ℕ, not, true, ◌==◌, List, [], ◌∷◌, codes, Option, Some, None, slice_get}
use Rattle.lf_rules.specs.Terms.{Term}
use Rattle.lf_rules.specs.Terms as terms
use Rattle.lf_rules.specs.declared.expr.Leaf.{Leaf}
use Rattle.lf_rules.specs.declared.expr.Leaf.TheVariants as leaves
use Rattle.lf_rules.specs.declared.expr.Unary.{Unary}
use Rattle.lf_rules.specs.declared.expr.Unary.TheVariants as ones
use Rattle.lf_rules.specs.declared.expr.Binary.{Binary}
use Rattle.lf_rules.specs.declared.expr.Binary.TheVariants as twos
use Rattle.lf_rules.specs.declared.expr.Row.{Row}
use Rattle.lf_rules.specs.declared.expr.Row.TheVariants as rows
use Rattle.lf_rules.specs.declared.expr.Over.{Over}
use Rattle.lf_rules.specs.declared.expr.Over.TheVariants as overs
use Rattle.lf_grammar.specs.declared.sign.Sign.TheVariants as signs
use Rattle.lf_grammar.specs.declared.token.Token.{Token}
use Rattle.lf_grammar.specs.declared.token.Token.TheVariants as tokens
use Rattle.lf_grammar.specs.Expressions.{constant_never_0}
use Rattle.lf_grammar.specs.Places.{Context, leaf_of, row_of}

abbrev pub round : List Token → List Token
round rest = tokens.Sign signs.OpenRound ∷ rest

abbrev pub closing : List Token → List Token
closing rest = tokens.Sign signs.CloseRound ∷ rest

-- what has the name of a row
abbrev pub leaf_of_row : Row → Leaf
leaf_of_row (rows.Table t) = leaves.Variable t.of
leaf_of_row (rows.Given i) = leaves.Given i

-- by the name of each leaf that has one
module _ (name : Leaf → List ℕ) where
  -- a leaf, and what stands behind it
  abbrev pub leaf_written : Leaf → List Token → List Token
  leaf_written (leaves.Number n) rest = tokens.Number n ∷ rest
  leaf_written leaves.Empty rest = tokens.Sign signs.OpenCurly ∷ tokens.Sign signs.CloseCurly ∷ rest
  leaf_written other rest = tokens.Word (name other) ∷ rest

  -- by the way that a part is written, with what stands behind it: `not` before it, a call of it, or a set with it alone
  abbrev pub one_written : Unary → (List Token → List Token) → List Token → List Token
  one_written ones.Not a rest = round (tokens.Word (codes "not") ∷ a (closing rest))
  one_written ones.Count a rest = tokens.Word (codes "count") ∷ round (a (closing rest))
  one_written ones.Lowest a rest = tokens.Word (codes "lowest") ∷ round (a (closing rest))
  one_written ones.Highest a rest = tokens.Word (codes "highest") ∷ round (a (closing rest))
  one_written ones.Only a rest = tokens.Sign signs.OpenCurly ∷ a (tokens.Sign signs.CloseCurly ∷ rest)

  -- two parts in brackets with what joins them between, a call of both, or the set from one to the other
  abbrev pub called_with : List ℕ → (List Token → List Token) → (List Token → List Token) → List Token → List Token
  called_with word a b rest = tokens.Word word ∷ round (a (tokens.Sign signs.Comma ∷ b (closing rest)))

  abbrev pub joined_by : Token → (List Token → List Token) → (List Token → List Token) → List Token → List Token
  joined_by joint a b rest = round (a (joint ∷ b (closing rest)))

  abbrev pub two_written : Binary → (List Token → List Token) → (List Token → List Token) → List Token → List Token
  two_written twos.Add a b rest = joined_by (tokens.Sign signs.Plus) a b rest
  two_written twos.Subtract a b rest = joined_by (tokens.Sign signs.Minus) a b rest
  two_written twos.Smaller a b rest = called_with (codes "min") a b rest
  two_written twos.Larger a b rest = called_with (codes "max") a b rest
  two_written twos.Remainder a b rest = joined_by (tokens.Word (codes "mod")) a b rest
  two_written twos.Equal a b rest = joined_by (tokens.Sign signs.Equal) a b rest
  two_written twos.Less a b rest = joined_by (tokens.Sign signs.Less) a b rest
  two_written twos.AtMost a b rest = joined_by (tokens.Sign signs.AtMost) a b rest
  two_written twos.And a b rest = joined_by (tokens.Word (codes "and")) a b rest
  two_written twos.Or a b rest = joined_by (tokens.Word (codes "or")) a b rest
  two_written twos.In a b rest = joined_by (tokens.Word (codes "in")) a b rest
  two_written twos.Union a b rest = joined_by (tokens.Sign signs.Plus) a b rest
  two_written twos.Without a b rest = joined_by (tokens.Sign signs.Minus) a b rest
  two_written twos.Between a b rest = tokens.Sign signs.OpenCurly ∷ a (tokens.Sign signs.To ∷ b (tokens.Sign signs.CloseCurly ∷ rest))
  two_written twos.Majority a b rest = called_with (codes "majority") a b rest

  -- the item at a place: the place in brackets behind the name
  abbrev pub at_written : Row → (List Token → List Token) → List Token → List Token
  at_written row a rest = tokens.Word (name (leaf_of_row row)) ∷ tokens.Sign signs.OpenSquare ∷ a (tokens.Sign signs.CloseSquare ∷ rest)

  -- a set and a body: with `where` between, or a call of both with a colon between
  abbrev pub chosen_with : List ℕ → (List Token → List Token) → (List Token → List Token) → List Token → List Token
  chosen_with word a b rest = tokens.Word word ∷ round (a (tokens.Sign signs.Colon ∷ b (closing rest)))

  abbrev pub over_written : Over → (List Token → List Token) → (List Token → List Token) → List Token → List Token
  over_written overs.Those a b rest = tokens.Sign signs.OpenCurly ∷ a (tokens.Word (codes "where") ∷ b (tokens.Sign signs.CloseCurly ∷ rest))
  over_written overs.Least a b rest = chosen_with (codes "min") a b rest
  over_written overs.Greatest a b rest = chosen_with (codes "max") a b rest

  -- an expression, and what stands behind it
  abbrev pub written : Term → List Token → List Token
  written (terms.Leaf x) rest = leaf_written x rest
  written (terms.Unary op a) rest = one_written op (written a) rest
  written (terms.Binary op a b) rest = two_written op (written a) (written b) rest
  written (terms.At row a) rest = at_written row (written a) rest
  written (terms.Over op a b) rest = over_written op (written a) (written b) rest

  -- an expression with every bracket
  abbrev pub bracketed : Term → List Token
  bracketed e = written e []

  module _ (at : Context) where
    -- the name of a leaf means the leaf
    abbrev pub IsNamed : Leaf → Type 0
    IsNamed (leaves.Number n) = Unit {0}
    IsNamed leaves.Empty = Unit {0}
    IsNamed leaf = leaf_of at.fields at.names (name leaf) ≡ Some leaf

    -- what a number may be divided by: a number that isn't 0, how many nodes there are, or a constant that is nowhere 0
    abbrev pub IsDivisor : Term → Type 0
    IsDivisor (terms.Leaf (leaves.Number n)) = not (n == 0) ≡ true
    IsDivisor (terms.Leaf leaves.Nodes) = Unit {0}
    IsDivisor (terms.Leaf (leaves.Given i)) = constant_never_0 (slice_get at.definition.given i) ≡ true
    IsDivisor other = ⊥

    abbrev pub IsSecond : Binary → Term → Type 0
    IsSecond twos.Remainder b = IsDivisor b
    IsSecond op b = Unit {0}

    -- the name of a row means what has its items
    abbrev pub IsRow : Row → Type 0
    IsRow row = IsNamed (leaf_of_row row) × (row_of at.definition (leaf_of_row row) ≡ Some row)

    -- an expression can be written: each of its leaves and rows has a name that means it, and it divides by what the language lets it divide by
    abbrev pub IsWritable : Term → Type 0
    IsWritable (terms.Leaf x) = IsNamed x
    IsWritable (terms.Unary op a) = IsWritable a
    IsWritable (terms.Binary op a b) = IsWritable a × IsWritable b × IsSecond op b
    IsWritable (terms.At row a) = IsRow row × IsWritable a
    IsWritable (terms.Over op a b) = IsWritable a × IsWritable b

-- no name means what a word of an expression says
pub record IsPlain (at : Context) : Type 0 where
  pub denial : leaf_of at.fields at.names (codes "not") ≡ None
  pub count : leaf_of at.fields at.names (codes "count") ≡ None
  pub lowest : leaf_of at.fields at.names (codes "lowest") ≡ None
  pub highest : leaf_of at.fields at.names (codes "highest") ≡ None
  pub smaller : leaf_of at.fields at.names (codes "min") ≡ None
  pub larger : leaf_of at.fields at.names (codes "max") ≡ None
  pub majority : leaf_of at.fields at.names (codes "majority") ≡ None
