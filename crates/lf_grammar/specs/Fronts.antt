-- What comes first among tokens.
use Rattle.std.specs.Prelude.{ℕ, Bool, true, false, ◌||◌, List, [], ◌∷◌, Option, Some, None, codes, if◌then◌else◌}
use Rattle.std.specs.Option.{is_some}
use Rattle.std.specs.Str.{bytes_eq}
use Rattle.lf_rules.specs.declared.expr.Unary.TheVariants as ones
use Rattle.lf_rules.specs.declared.expr.Binary.TheVariants as twos
use Rattle.lf_rules.specs.declared.expr.Over.{Over}
use Rattle.lf_rules.specs.declared.expr.Over.TheVariants as overs
use Rattle.lf_grammar.specs.declared.sign.Sign.{Sign}
use Rattle.lf_grammar.specs.declared.sign.Sign.TheVariants as signs
use Rattle.lf_grammar.specs.declared.token.Token.{Token}
use Rattle.lf_grammar.specs.declared.token.Token.TheVariants as tokens
use Rattle.lf_grammar.specs.declared.level.Level.{Level}
use Rattle.lf_grammar.specs.declared.level.Level.TheVariants as levels
use Rattle.lf_grammar.specs.declared.level.Joint.{Joint}
use Rattle.lf_grammar.specs.declared.level.Joint.TheVariants as joints
use Rattle.lf_grammar.specs.declared.calls.Call.{Call}
use Rattle.lf_grammar.specs.declared.calls.Call.TheVariants as calls
use Rattle.lf_grammar.specs.Typing.{◌>>=◌, compares}

-- the tokens behind a word or a sign, where it comes first
abbrev pub behind_word : List ℕ → List Token → Option (List Token)
behind_word wanted (tokens.Word word ∷ rest) = if bytes_eq word wanted then Some rest else None
behind_word wanted other = None

abbrev pub same_sign : Sign → Sign → Bool
same_sign signs.To signs.To = true
same_sign signs.NotEqual signs.NotEqual = true
same_sign signs.AtMost signs.AtMost = true
same_sign signs.AtLeast signs.AtLeast = true
same_sign signs.Minus signs.Minus = true
same_sign signs.Plus signs.Plus = true
same_sign signs.Equal signs.Equal = true
same_sign signs.Less signs.Less = true
same_sign signs.More signs.More = true
same_sign signs.OpenRound signs.OpenRound = true
same_sign signs.CloseRound signs.CloseRound = true
same_sign signs.OpenCurly signs.OpenCurly = true
same_sign signs.CloseCurly signs.CloseCurly = true
same_sign signs.OpenSquare signs.OpenSquare = true
same_sign signs.CloseSquare signs.CloseSquare = true
same_sign signs.Comma signs.Comma = true
same_sign signs.Colon signs.Colon = true
same_sign signs.Bar signs.Bar = true
same_sign one other = false

abbrev pub behind_sign : Sign → List Token → Option (List Token)
behind_sign wanted (tokens.Sign sign ∷ rest) = if same_sign sign wanted then Some rest else None
behind_sign wanted other = None

-- the first token, and those behind it
pub record Cut : Type 0 where
  pub first : Token
  pub rest : List Token

abbrev pub cut : List Token → Option Cut
cut [] = None
cut (t ∷ ts) = Some (record { first = t; rest = ts })

abbrev pub comparing : Bool → Cut → Option Cut
comparing true c = Some c
comparing false c = None

-- the comparison that comes first, and the tokens behind it
abbrev pub behind_comparison : List Token → Option Cut
behind_comparison ts = cut ts >>= λ c. comparing (compares c.first) c

-- what joins operands of one strength, and the items of a set
abbrev pub joining_word : Level → List ℕ → Option Joint
joining_word levels.Or word = if bytes_eq word (codes "or") then Some joints.Or else None
joining_word levels.And word = if bytes_eq word (codes "and") then Some joints.And else None
joining_word levels.Term word = if bytes_eq word (codes "mod") then Some joints.Remainder else None
joining_word other word = None

abbrev pub joining_sign : Level → Sign → Option Joint
joining_sign levels.Items signs.Comma = Some joints.Comma
joining_sign levels.Sum signs.Plus = Some joints.Plus
joining_sign levels.Sum signs.Minus = Some joints.Minus
joining_sign other sign = None

abbrev pub joint : Level → Token → Option Joint
joint level (tokens.Word word) = joining_word level word
joint level (tokens.Sign sign) = joining_sign level sign
joint level (tokens.Number n) = None

pub record Joined : Type 0 where
  pub by : Joint
  pub rest : List Token

abbrev pub joining : List Token → Option Joint → Option Joined
joining rest None = None
joining rest (Some by) = Some (record { by = by; rest = rest })

-- what joins that comes first, and the tokens behind it
abbrev pub behind_joint : Level → List Token → Option Joined
behind_joint level ts = cut ts >>= λ c. joining c.rest (joint level c.first)

-- what is said of values by a name
abbrev pub called : List ℕ → Option Call
called name =
    if bytes_eq name (codes "count") then Some (calls.Of ones.Count) else if bytes_eq name (codes "lowest") then Some (calls.Of ones.Lowest)
    else if bytes_eq name (codes "highest") then Some (calls.Of ones.Highest) else if bytes_eq name (codes "min") then Some (calls.OfTwo twos.Smaller)
    else if bytes_eq name (codes "max") then Some (calls.OfTwo twos.Larger) else if bytes_eq name (codes "majority") then Some calls.Majority else None

-- what a call says of the values of a body
abbrev pub of_body : Call → Option Over
of_body (calls.OfTwo twos.Smaller) = Some overs.Least
of_body (calls.OfTwo twos.Larger) = Some overs.Greatest
of_body other = None

-- how loose the operators of a body are, and the bracket behind it
abbrev pub level_of : Over → Level
level_of overs.Those = levels.Or
level_of other = levels.Sum

abbrev pub end_of : Over → Sign
end_of overs.Those = signs.CloseCurly
end_of other = signs.CloseRound

-- an item of a set ends with what follows it
abbrev pub ends_item : List Token → Bool
ends_item ts = is_some (behind_sign signs.Comma ts) || is_some (behind_sign signs.CloseCurly ts)
