-- The tokens of texts, and what comes first among tokens.
use Rattle.std.specs.Prelude.{ℕ, Bool, true, false, ◌&&◌, ◌==◌, List, [], ◌∷◌, Result, Ok, Err}
use Rattle.std.specs.Str.{bytes_eq}
use Rattle.lf_grammar.specs.declared.token_error.TokenError.{TokenError}
use Rattle.lf_grammar.specs.declared.sign.Sign.{Sign}
use Rattle.lf_grammar.specs.declared.token.Token.{Token}
use Rattle.lf_grammar.specs.declared.token.Token.TheVariants as tokens
use Rattle.lf_grammar.specs.Tokens.{tokens_of}
use Rattle.lf_grammar.specs.Fronts.{behind_sign, behind_word, same_sign}
use Rattle.lf_texts.specs.declared.error.TextError.TheVariants as faults
use Rattle.lf_texts.specs.Faults.{of_tokens}
use Rattle.lf_texts.specs.Reading.{Reading, wanted, Read}

-- two texts have the same tokens
abbrev pub same_token : Token → Token → Bool
same_token (tokens.Number a) (tokens.Number b) = a == b
same_token (tokens.Word a) (tokens.Word b) = bytes_eq a b
same_token (tokens.Sign a) (tokens.Sign b) = same_sign a b
same_token one other = false

abbrev pub same_tokens : List Token → List Token → Bool
same_tokens [] [] = true
same_tokens [] (u ∷ us) = false
same_tokens (t ∷ ts) [] = false
same_tokens (t ∷ ts) (u ∷ us) = same_token t u && same_tokens ts us

-- the tokens of a text
abbrev pub as_text : Result (List Token) TokenError → Reading (List Token)
as_text (Ok ts) = Ok ts
as_text (Err e) = Err (of_tokens e)

unfoldable pub text_in : List ℕ → Reading (List Token)
text_in text = as_text (tokens_of text)

-- a text ends where it is read
abbrev pub ended : List Token → Reading (Unit {0})
ended [] = Ok tt
ended (t ∷ ts) = Err faults.Unfit

-- the tokens behind a sign or a word that has to come first
abbrev pub past : Sign → List Token → Reading (List Token)
past sign ts = wanted (behind_sign sign ts)

abbrev pub past_word : List ℕ → List Token → Reading (List Token)
past_word word ts = wanted (behind_word word ts)

-- a word, and a number, that has to come first
abbrev pub first_word : List Token → Reading (Read (List ℕ))
first_word (tokens.Word word ∷ rest) = Ok (record { value = word; rest = rest })
first_word other = Err faults.Unfit

abbrev pub first_number : List Token → Reading (Read ℕ)
first_number (tokens.Number n ∷ rest) = Ok (record { value = n; rest = rest })
first_number other = Err faults.Unfit
