-- What variables hold.
use Rattle.std.specs.Prelude.{ℕ, ◌≤◌, List, [], ◌∷◌, length, Option, Some, None, Ok}
use Rattle.lf_rules.specs.declared.kind.Kind.{Kind}
use Rattle.lf_rules.specs.declared.table.Cells.{Cells}
use Rattle.lf_grammar.specs.declared.sign.Sign.TheVariants as signs
use Rattle.lf_grammar.specs.declared.token.Token.{Token}
use Rattle.lf_grammar.specs.declared.token.Token.TheVariants as tokens
use Rattle.lf_grammar.specs.Places.{Context}
use Rattle.lf_grammar.specs.declared.place.Meaning.{Meaning}
use Rattle.lf_texts.specs.declared.variables.VariableText.{VariableText}
use Rattle.lf_texts.specs.declared.variables.VariableText.TheVariants as texts
use Rattle.lf_texts.specs.Fronts.{ended, first_word, past}
use Rattle.lf_texts.specs.Kinds.{first_range, kind_named}
use Rattle.lf_texts.specs.Lists.{listed}
use Rattle.lf_texts.specs.Names.{is_free, is_name}
use Rattle.lf_texts.specs.Reading.{Reading, ◌>>=◌, Read, checked}
use Rattle.lf_texts.specs.Tables.{first_cells}

-- a word behind others: one that is free
unfoldable pub first_free : List Meaning → List (List ℕ) → List Token → Reading (Read (List ℕ))
first_free names before ts = do
  x ← first_word ts
  fit ← checked (is_free names before x.value)
  Ok x

-- words of its own: one, and at most 15 more
unfoldable pub words_in : List Meaning → List Token → Reading VariableText
words_in names ts = do
  first ← first_free names [] ts
  next ← past signs.Bar first.rest
  x ← listed (first_free names) signs.Bar 15 (first.value ∷ []) next
  end ← ended x.rest
  Ok (texts.Words x.value)

-- tokens that begin with a word that is no kind: alone it is another variable's name, and else the first of words of its own
abbrev pub own_in : Context → List Token → List ℕ → List Token → Reading VariableText
own_in at ts word [] = checked (is_name word) >>= λ fit. Ok (texts.Like word)
own_in at ts word (t ∷ more) = words_in at.names ts

abbrev pub kind_alone : Read Kind → Reading VariableText
kind_alone x = ended x.rest >>= λ end. Ok (texts.Kind x.value)

abbrev pub held_by : Context → List Token → List ℕ → List Token → Option Kind → Reading VariableText
held_by at ts word rest None = own_in at ts word rest
held_by at ts word rest (Some kind) = kind_alone (record { value = kind; rest = rest })

-- what a cell holds
unfoldable pub held_in : Context → List Token → Reading VariableText
held_in at (tokens.Word word ∷ rest) = held_by at (tokens.Word word ∷ rest) word rest (kind_named word)
held_in at other = first_range other >>= λ x. kind_alone x

-- how many cells a variable has, and what each of them holds
unfoldable pub variable_in : Context → List Token → Reading (Cells × VariableText)
variable_in at ts = do
  x ← first_cells ts
  text ← held_in at x.rest
  Ok (x.value, text)

-- words of its own are 2 at least and 16 at most
abbrev pub HasWords : VariableText → Type 0
HasWords (texts.Words words) = (2 ≤ length words) × (length words ≤ 16)
HasWords other = Unit {0}
