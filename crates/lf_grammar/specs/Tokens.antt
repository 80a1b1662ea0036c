-- The tokens of a text: what it says, byte by byte, and which fault comes first.
use Rattle.std.specs.Prelude.{◌≡◌, ℕ, ◌+◌, ◌*◌, ◌-◌, nat_le, nat_lt, if◌then◌else◌, List, [], ◌∷◌, ◌++◌, Option, Some, None, Result, Ok, Err}
use Rattle.std.specs.List.{fold}
use Rattle.lf_grammar.specs.declared.token_error.TokenError.{TokenError}
use Rattle.lf_grammar.specs.declared.token_error.TokenError.TheVariants as faults
use Rattle.lf_grammar.specs.declared.sign.Sign.{Sign}
use Rattle.lf_grammar.specs.declared.token.Token.{Token}
use Rattle.lf_grammar.specs.declared.token.Token.TheVariants as tokens
use Rattle.lf_grammar.specs.Bytes.{is_blank, is_digit, is_letter, is_of_word}
use Rattle.lf_grammar.specs.Signs.{single, pair, opens, closes}

-- what stands between blanks: a number of any size, a word, a sign, or a character that is none of these
pub data Piece : Type 0 where
  Number : ℕ → Piece
  Word : List ℕ → Piece
  Mark : Sign → Piece
  Stray : Piece

-- a piece as far as it is read: nothing, digits, letters, a byte that may be the first of a sign, or a sign of two bytes
pub data Part : Type 0 where
  Nothing : Part
  Digits : ℕ → Part
  Letters : List ℕ → Part
  First : ℕ → Part
  Both : Sign → Part

abbrev both : Option Sign → Option Part
both None = None
both (Some sign) = Some (Both sign)

-- the part with a byte more, where the byte belongs to it
abbrev pub joined : Part → ℕ → Option Part
joined Nothing b = None
joined (Digits n) b = if is_digit b then Some (Digits (10 * n + (b - 48))) else None
joined (Letters word) b = if is_of_word b then Some (Letters (word ++ b ∷ [])) else None
joined (First a) b = both (pair a b)
joined (Both sign) b = None

-- what a byte begins
abbrev pub begun : ℕ → Part
begun b = if is_blank b then Nothing else if is_digit b then Digits (b - 48) else if is_letter b then Letters (b ∷ []) else First b

abbrev pub marked : Option Sign → Piece
marked None = Stray
marked (Some sign) = Mark sign

-- what a part is, where it ends
abbrev pub ended : Part → List Piece
ended Nothing = []
ended (Digits n) = Number n ∷ []
ended (Letters word) = Word word ∷ []
ended (First a) = marked (single a) ∷ []
ended (Both sign) = Mark sign ∷ []

abbrev option_or : {A B : Type 0} → Option A → B → (A → B) → B
option_or None none some = none
option_or (Some x) none some = some x

-- the pieces of a part and the bytes behind it
abbrev pub pieces : Part → List ℕ → List Piece
pieces part [] = ended part
pieces part (b ∷ bs) = option_or (joined part b) (ended part ++ pieces (begun b) bs) (λ more. pieces more bs)

-- what a reading gives: a value, or the fault
abbrev pub Reading : Type 0 → Type 0
Reading A = Result A TokenError

infixl 10 ◌>>=◌
abbrev pub ◌>>=◌ : {A B : Type 0} → Reading A → (A → Reading B) → Reading B
Ok x >>= next = next x
Err e >>= next = Err e

-- the token of a piece
abbrev pub token_of : Piece → Reading Token
token_of (Number n) = if nat_le n 255 then Ok (tokens.Number n) else Err faults.TooLarge
token_of (Word word) = Ok (tokens.Word word)
token_of (Mark sign) = Ok (tokens.Sign sign)
token_of Stray = Err faults.Stray

-- how many brackets are open after a sign
abbrev pub open_after_sign : ℕ → Sign → Reading ℕ
open_after_sign depth sign =
    if opens sign then (if nat_lt depth 12 then Ok (depth + 1) else Err faults.TooDeep) else if closes sign then Ok (depth - 1) else Ok depth

abbrev pub open_after : ℕ → Token → Reading ℕ
open_after depth (tokens.Sign sign) = open_after_sign depth sign
open_after depth other = Ok depth

-- a token, where there is room for one more
abbrev pub in_room : ℕ → Token → Reading Token
in_room count token = if nat_lt count 160 then Ok token else Err faults.TooMany

-- the tokens of pieces, behind so many tokens of which so many brackets are open
abbrev pub tokens_behind : ℕ → ℕ → List Piece → Reading (List Token)
tokens_behind count depth [] = Ok []
tokens_behind count depth (x ∷ xs) =
    token_of x >>= λ token. open_after depth token >>= λ after. in_room count token >>= λ _.
    tokens_behind (count + 1) after xs >>= λ rest. Ok (token ∷ rest)

-- the tokens of a text
abbrev pub tokens_of : List ℕ → Reading (List Token)
tokens_of text = tokens_behind 0 0 (pieces Nothing text)

-- ---- what the reader's calls say

-- the piece that a token is
abbrev pub piece_of : Token → Piece
piece_of (tokens.Number n) = Number n
piece_of (tokens.Word word) = Word word
piece_of (tokens.Sign sign) = Mark sign

-- bytes begin with a token, with these behind it
abbrev pub IsNext : List ℕ → Token → List ℕ → Type 0
IsNext bytes token after = (pieces Nothing bytes ≡ piece_of token ∷ pieces Nothing after) × (token_of (piece_of token) ≡ Ok token)

-- bytes begin with what is no token, for this fault
abbrev pub IsFaulty : List ℕ → TokenError → Type 0
IsFaulty bytes e = (x : Piece) × (xs : List Piece) × (pieces Nothing bytes ≡ x ∷ xs) × (token_of x ≡ Err e)

-- the value of digits behind a number
abbrev pub value_behind : ℕ → List ℕ → ℕ
value_behind = fold (λ n b. 10 * n + (b - 48))

-- a reading with these tokens in front
abbrev pub behind_tokens : List Token → Reading (List Token) → Reading (List Token)
behind_tokens tokens (Ok rest) = Ok (tokens ++ rest)
behind_tokens tokens (Err e) = Err e
