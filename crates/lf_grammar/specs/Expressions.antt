-- What tokens say as an expression: the grammar, read from the left with one token of foresight. Each part is of a sort as soon as it is read.
use Rattle.std.specs.Prelude.{◌+◌, ◌*◌, ℕ, zero, suc, Bool, true, false, not, ◌&&◌, ◌==◌, List, length, codes, Option, Some, None, if◌then◌else◌, slice_get}
use Rattle.std.specs.List.{list_all}
use Rattle.lf_rules.specs.Terms as terms
use Rattle.lf_rules.specs.Sorts.{is_of, leaf_sort}
use Rattle.lf_rules.specs.declared.expr.Leaf.{Leaf}
use Rattle.lf_rules.specs.declared.expr.Leaf.TheVariants as leaves
use Rattle.lf_rules.specs.declared.expr.Unary.TheVariants as ones
use Rattle.lf_rules.specs.declared.expr.Row.{Row}
use Rattle.lf_rules.specs.declared.expr.Over.{Over}
use Rattle.lf_rules.specs.declared.expr.Over.TheVariants as overs
use Rattle.lf_rules.specs.declared.sort.Sort.TheVariants as sorts
use Rattle.lf_rules.specs.declared.definition.Constant.{Constant}
use Rattle.lf_rules.specs.declared.definition.Given.{Given}
use Rattle.lf_rules.specs.declared.definition.Given.TheVariants as givens
use Rattle.lf_rules.specs.declared.definition.Value.{Value}
use Rattle.lf_rules.specs.declared.definition.Value.TheVariants as values
use Rattle.lf_grammar.specs.declared.sign.Sign.{Sign}
use Rattle.lf_grammar.specs.declared.sign.Sign.TheVariants as signs
use Rattle.lf_grammar.specs.declared.token.Token.{Token}
use Rattle.lf_grammar.specs.declared.token.Token.TheVariants as tokens
use Rattle.lf_grammar.specs.declared.level.Level.{Level}
use Rattle.lf_grammar.specs.declared.level.Level.TheVariants as levels
use Rattle.lf_grammar.specs.declared.calls.Call.{Call}
use Rattle.lf_grammar.specs.Places.{Context, body_at, leaf_of, row_of}
use Rattle.lf_grammar.specs.Typing.{Said, ◌>>=◌, typed, by_one, compared, joined, by_call, at_place, over_set, only_by, between, how_many, no_node}
use Rattle.lf_grammar.specs.Fronts.{cut, behind_word, behind_sign, behind_comparison, behind_joint, called, of_body, level_of, end_of, ends_item}

-- what is read, and the tokens behind it
pub record Found : Type 0 where
  pub said : Said
  pub rest : List Token

abbrev pub found : Said → List Token → Option Found
found a rest = Some (record { said = a; rest = rest })

-- what a token begins: an expression by itself, a name for what it is alone and for what has its items, what stands in round brackets, a set, a call, or
-- nothing
pub data Begin : Type 0 where
  Alone : Said → Begin
  Named : Option Said → Option Row → Begin
  Round : Begin
  Curly : Begin
  Called : Call → Begin
  Nowhere : Begin

-- what is to be read: operands of one strength with what joins them, the first of them, what follows it, the next one; what may be denied or compared;
-- the tightest, and what stands behind its first token; the place of an item, with the bracket behind it; the second value of a call, and what follows the
-- first value where there is no second one; an item of a set, and what follows its first number; what follows the first value behind `{`; and the body for
-- the nodes of a set, with the bracket behind it
pub data Next : Type 0 where
  All : Level → Next
  Left : Level → Next
  More : Level → Said → Next
  Right : Level → Next
  Denied : Next
  Comparison : Next
  Compared : Said → Next
  Atom : Next
  Behind : Begin → Next
  Placed : Row → Next
  Second : Call → Said → Next
  Single : Call → Said → Next
  Item : Next
  Range : Said → Next
  Members : Said → Next
  Body : Over → Said → Next

-- one value, or another way, by whether something is there
abbrev pub cases_of : {A B : Type 0} → Option A → Option B → (A → Option B) → Option B
cases_of None absent present = absent
cases_of (Some x) absent present = present x

-- a value, where a bracket closes behind it
abbrev pub closed : Sign → Option Said → List Token → Option Found
closed sign a ts = behind_sign sign ts >>= λ rest. a >>= λ b. found b rest

-- a constant that is a number, and 0 at no node
abbrev pub is_not_0 : Value → Bool
is_not_0 (values.Number n) = not (n == 0)
is_not_0 other = false

abbrev pub never_0 : Given → Bool
never_0 (givens.One v) = is_not_0 v
never_0 (givens.Each vs) = list_all is_not_0 vs

abbrev pub constant_never_0 : Option Constant → Bool
constant_never_0 None = false
constant_never_0 (Some x) = never_0 x.value

abbrev pub number_in_case : Bool → Leaf → Option Said
number_in_case true leaf = Some (record { term = terms.Leaf leaf; sort = sorts.Number })
number_in_case false leaf = None

abbrev pub call_or_nothing : Option Call → Begin
call_or_nothing None = Nowhere
call_or_nothing (Some call) = Called call

abbrev pub begins_sign : Sign → Begin
begins_sign signs.OpenRound = Round
begins_sign signs.OpenCurly = Curly
begins_sign other = Nowhere

module _ (at : Context) where
  -- what a number may be divided by: a number that isn't 0, how many nodes there are, or a constant that may be named here and is a number, never 0
  abbrev pub divisor_named : Option Leaf → Option Said
  divisor_named (Some leaves.Nodes) = Some how_many
  divisor_named (Some (leaves.Given i)) =
      number_in_case (is_of (leaf_sort at.definition at.scope at.within (leaves.Given i)) sorts.Number && constant_never_0 (slice_get at.definition.given i))
      (leaves.Given i)
  divisor_named other = None

  abbrev pub divisor : Token → Option Said
  divisor (tokens.Number n) = number_in_case (not (n == 0)) (leaves.Number n)
  divisor (tokens.Word word) = divisor_named (leaf_of at.fields at.names word)
  divisor other = None

  abbrev pub first_divisor : List Token → Option Found
  first_divisor ts = cut ts >>= λ c. divisor c.first >>= λ a. found a c.rest

  -- a name that means something is an expression by itself or has items, and any other word may be a call's
  abbrev pub begins_word : List ℕ → Option Leaf → Begin
  begins_word word None = call_or_nothing (called word)
  begins_word word (Some leaf) = Named (typed (terms.Leaf leaf) (leaf_sort at.definition at.scope at.within leaf)) (row_of at.definition leaf)

  abbrev pub begins : Token → Begin
  begins (tokens.Number n) = Alone (record { term = terms.Leaf (leaves.Number n); sort = sorts.Number })
  begins (tokens.Word word) = begins_word word (leaf_of at.fields at.names word)
  begins (tokens.Sign sign) = begins_sign sign

-- what comes first, in so many steps of reading: each step goes one part down, or one token on
unfoldable pub read : Context → ℕ → Next → List Token → Option Found
read at zero next ts = None
read at (suc n) (All level) ts = read at n (Left level) ts >>= λ x. read at n (More level x.said) x.rest
read at (suc n) (Left levels.Items) ts = read at n Item ts
read at (suc n) (Left levels.Or) ts = read at n (All levels.And) ts
read at (suc n) (Left levels.And) ts = read at n Denied ts
read at (suc n) (Left levels.Sum) ts = read at n (All levels.Term) ts
read at (suc n) (Left levels.Term) ts = read at n Atom ts
read at (suc n) (More level a) ts =
    cases_of (behind_joint level ts) (found a ts)
    (λ j. read at n (Right level) j.rest >>= λ x. joined j.by a x.said >>= λ b. read at n (More level b) x.rest)
read at (suc n) (Right levels.Term) ts = first_divisor at ts
read at (suc n) (Right level) ts = read at n (Left level) ts
read at (suc n) Denied ts =
    cases_of (behind_word (codes "not") ts) (read at n Comparison ts)
    (λ after. read at n Denied after >>= λ x. by_one ones.Not x.said >>= λ b. found b x.rest)
read at (suc n) Comparison ts = read at n (All levels.Sum) ts >>= λ x. read at n (Compared x.said) x.rest
read at (suc n) (Compared a) ts =
    cases_of (behind_comparison ts) (found a ts) (λ c. read at n (All levels.Sum) c.rest >>= λ x. compared c.first a x.said >>= λ b. found b x.rest)
read at (suc n) Atom ts = cut ts >>= λ c. read at n (Behind (begins at c.first)) c.rest
read at (suc n) (Behind (Alone a)) ts = found a ts
read at (suc n) (Behind (Named alone row)) ts =
    cases_of (behind_sign signs.OpenSquare ts) (alone >>= λ a. found a ts) (λ after. row >>= λ r. read at n (Placed r) after)
read at (suc n) (Behind Round) ts = read at n (All levels.Or) ts >>= λ x. closed signs.CloseRound (Some x.said) x.rest
read at (suc n) (Behind Curly) ts =
    cases_of (behind_sign signs.CloseCurly ts) (read at n (All levels.Sum) ts >>= λ x. read at n (Members x.said) x.rest) (λ rest. found no_node rest)
read at (suc n) (Behind (Called call)) ts =
    behind_sign signs.OpenRound ts >>= λ inner. read at n (All levels.Sum) inner >>= λ x. read at n (Second call x.said) x.rest
read at (suc n) (Behind Nowhere) ts = None
read at (suc n) (Placed row) ts =
    read at n (All levels.Sum) ts >>= λ x. closed signs.CloseSquare (at_place at.definition at.scope row x.said) x.rest
read at (suc n) (Second call a) ts =
    cases_of (behind_sign signs.Comma ts) (read at n (Single call a) ts)
    (λ after. read at n (All levels.Sum) after >>= λ x. closed signs.CloseRound (by_call call a (Some x.said)) x.rest)
read at (suc n) (Single call a) ts =
    cases_of (behind_sign signs.Colon ts) (closed signs.CloseRound (by_call call a None) ts) (λ after. of_body call >>= λ op. read at n (Body op a) after)
read at (suc n) Item ts = read at n (All levels.Sum) ts >>= λ x. read at n (Range x.said) x.rest
read at (suc n) (Range a) ts =
    cases_of (behind_sign signs.To ts) (only_by a.sort a >>= λ b. found b ts)
    (λ after. if ends_item after then (between a how_many >>= λ b. found b after)
    else (read at n (All levels.Sum) after >>= λ x. between a x.said >>= λ b. found b x.rest))
read at (suc n) (Members a) ts =
    cases_of (behind_word (codes "where") ts)
    (read at n (Range a) ts >>= λ x. read at n (More levels.Items x.said) x.rest >>= λ y. closed signs.CloseCurly (Some y.said) y.rest)
    (λ after. read at n (Body overs.Those a) after)
read at (suc n) (Body op a) ts =
    body_at at >>= λ inner. read inner n (All (level_of op)) ts >>= λ x. closed (end_of op) (over_set op a x.said) x.rest

-- how far down a part stands: what is read of it is read by one further down, or behind a token more
abbrev pub all_depth : Level → ℕ
all_depth levels.Items = 16
all_depth levels.Or = 13
all_depth levels.And = 11
all_depth levels.Sum = 7
all_depth levels.Term = 5

abbrev pub left_depth : Level → ℕ
left_depth levels.Items = 15
left_depth levels.Or = 12
left_depth levels.And = 10
left_depth levels.Sum = 6
left_depth levels.Term = 4

abbrev pub depth : Next → ℕ
depth (All level) = all_depth level
depth (Left level) = left_depth level
depth (More level a) = 2
depth (Right level) = 17
depth Denied = 9
depth Comparison = 8
depth (Compared a) = 2
depth Atom = 3
depth (Behind begin) = 18
depth (Placed row) = 14
depth (Second call a) = 3
depth (Single call a) = 2
depth Item = 14
depth (Range a) = 2
depth (Members a) = 3
depth (Body op a) = 14

-- steps that are enough
abbrev pub steps : Next → List Token → ℕ
steps next ts = 20 * length ts + depth next

-- what comes first of tokens as a truth value or any other, as an operand of `and` and `or`, and as a sum, a number or a set
unfoldable pub first_truth : Context → List Token → Option Found
first_truth at ts = read at (suc (steps (All levels.Or) ts)) (All levels.Or) ts

unfoldable pub first_operand : Context → List Token → Option Found
first_operand at ts = read at (suc (steps Denied ts)) Denied ts

unfoldable pub first_sum : Context → List Token → Option Found
first_sum at ts = read at (suc (steps (All levels.Sum) ts)) (All levels.Sum) ts
