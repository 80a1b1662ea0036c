-- The signs of a text.
use Rattle.std.specs.Prelude.{ℕ, Bool, true, false, ◌==◌, if◌then◌else◌, Option, Some, None}
use Rattle.lf_grammar.specs.declared.sign.Sign.{Sign}
use Rattle.lf_grammar.specs.declared.sign.Sign.TheVariants as signs

-- the sign that a byte is
abbrev pub single : ℕ → Option Sign
single b =
    if b == 45 then Some signs.Minus else if b == 43 then Some signs.Plus else if b == 61 then Some signs.Equal
    else if b == 60 then Some signs.Less else if b == 62 then Some signs.More
    else if b == 40 then Some signs.OpenRound else if b == 41 then Some signs.CloseRound
    else if b == 123 then Some signs.OpenCurly else if b == 125 then Some signs.CloseCurly
    else if b == 91 then Some signs.OpenSquare else if b == 93 then Some signs.CloseSquare
    else if b == 44 then Some signs.Comma else if b == 58 then Some signs.Colon else if b == 124 then Some signs.Bar else None

-- a sign, where the second byte is the one that it wants
abbrev ended : Bool → Sign → Option Sign
ended true sign = Some sign
ended false sign = None

-- the sign that two bytes are together: .. != <= >=
abbrev pub pair : ℕ → ℕ → Option Sign
pair a b =
    if a == 46 then ended (b == 46) signs.To else if a == 33 then ended (b == 61) signs.NotEqual
    else if a == 60 then ended (b == 61) signs.AtMost else if a == 62 then ended (b == 61) signs.AtLeast else None

abbrev pub opens : Sign → Bool
opens signs.OpenRound = true
opens signs.OpenCurly = true
opens signs.OpenSquare = true
opens other = false

abbrev pub closes : Sign → Bool
closes signs.CloseRound = true
closes signs.CloseCurly = true
closes signs.CloseSquare = true
closes other = false
