-- Kinds of values, by words.
use Rattle.std.specs.Prelude.{ℕ, not, ◌&&◌, ◌==◌, if◌then◌else◌, List, [], ◌∷◌, Option, Some, None, codes, Ok, Err}
use Rattle.std.specs.Str.{bytes_eq}
use Rattle.lf_rules.specs.declared.kind.Kind.{Kind}
use Rattle.lf_rules.specs.declared.kind.Kind.TheVariants as kinds
use Rattle.lf_rules.specs.declared.definition.Variable.{Variable}
use Rattle.lf_grammar.specs.declared.sign.Sign.TheVariants as signs
use Rattle.lf_grammar.specs.declared.token.Token.{Token}
use Rattle.lf_grammar.specs.declared.token.Token.TheVariants as tokens
use Rattle.lf_texts.specs.declared.error.TextError.TheVariants as faults
use Rattle.lf_texts.specs.Fronts.{first_number, past}
use Rattle.lf_texts.specs.Reading.{Reading, ◌>>=◌, Read, checked}

-- the kind that a word of the language stands for
abbrev pub kind_named : List ℕ → Option Kind
kind_named word =
    if bytes_eq word (codes "flag") then Some kinds.Flag else if bytes_eq word (codes "nodes") then Some kinds.Nodes
    else if bytes_eq word (codes "step") then Some (kinds.UpTo 48) else None

-- 0 and .. and the greatest number, which isn't 0
unfoldable pub first_range : List Token → Reading (Read Kind)
first_range ts = do
  least ← first_number ts
  last ← past signs.To least.rest
  most ← first_number last
  fit ← checked ((least.value == 0) && not (most.value == 0))
  Ok (record { value = kinds.UpTo most.value; rest = most.rest })

-- the kind of the variable with a name
abbrev pub kind_of : List ℕ → List Variable → Reading Kind
kind_of word [] = Err faults.Unfit
kind_of word (x ∷ xs) = if bytes_eq x.name word then Ok x.kind else kind_of word xs

abbrev pub kind_or : Option Kind → Reading Kind → Reading Kind
kind_or None other = other
kind_or (Some kind) other = Ok kind

-- a kind of the language, or that of a variable, and the tokens behind it
unfoldable pub first_kind : List Variable → List Token → Reading (Read Kind)
first_kind variables (tokens.Word word ∷ rest) =
    kind_or (kind_named word) (kind_of word variables) >>= λ kind. Ok (record { value = kind; rest = rest })
first_kind variables other = first_range other
