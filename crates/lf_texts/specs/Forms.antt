-- Forms of notes.
use Rattle.std.specs.Prelude.{ℕ, suc, Bool, not, ◌&&◌, nat_lt, if◌then◌else◌, List, [], ◌∷◌, map, Ok, Err}
use Rattle.std.specs.List.{list_any}
use Rattle.std.specs.Str.{bytes_eq}
use Rattle.lf_rules.specs.declared.kind.Kind.{Kind}
use Rattle.lf_rules.specs.declared.definition.Definition.{Definition}
use Rattle.lf_rules.specs.declared.definition.NoteForm.{NoteForm}
use Rattle.lf_rules.specs.declared.definition.Variable.{Variable}
use Rattle.lf_grammar.specs.declared.sign.Sign.TheVariants as signs
use Rattle.lf_grammar.specs.declared.token.Token.{Token}
use Rattle.lf_texts.specs.declared.error.TextError.TheVariants as faults
use Rattle.lf_texts.specs.declared.forms.Field.{Field}
use Rattle.lf_texts.specs.Fronts.{ended, first_word, past}
use Rattle.lf_texts.specs.Kinds.{first_kind}
use Rattle.lf_texts.specs.Lists.{listed}
use Rattle.lf_texts.specs.Names.{is_name, is_note_name}
use Rattle.lf_texts.specs.Reading.{Reading, ◌>>=◌, Read, checked}

-- the form with a name: its number, counted from one on, and the kinds of its fields
pub record Form : Type 0 where
  pub number : ℕ
  pub kinds : List Kind

abbrev pub form_from : ℕ → List ℕ → List NoteForm → Reading Form
form_from i word [] = Err faults.Unfit
form_from i word (x ∷ xs) =
    if bytes_eq x.name word then (if nat_lt i 256 then Ok (record { number = i; kinds = x.fields }) else Err faults.Unfit) else form_from (suc i) word xs

abbrev pub is_form : List NoteForm → List ℕ → Bool
is_form notes word = list_any (λ x. bytes_eq x.name word) notes

abbrev pub is_field : List Field → List ℕ → Bool
is_field fields word = list_any (λ x. bytes_eq x.name word) fields

-- a field behind others: a name that none of them has, and a kind
unfoldable pub first_field : List Variable → List Field → List Token → Reading (Read Field)
first_field variables before ts = do
  x ← first_word ts
  fit ← checked (is_name x.value && not (is_field before x.value))
  inner ← past signs.Colon x.rest
  kind ← first_kind variables inner
  Ok (record { value = record { name = x.value; kind = kind.value }; rest = kind.rest })

-- fields in brackets
unfoldable pub kinds_inside : List Variable → List Token → Reading (List Kind)
kinds_inside variables ts = do
  inner ← past signs.OpenRound ts
  x ← listed (first_field variables) signs.Comma 7 [] inner
  rest ← past signs.CloseRound x.rest
  end ← ended rest
  Ok (map (λ field. field.kind) x.value)

-- fields, or none and no brackets
abbrev pub kinds_in : List Variable → List Token → Reading (List Kind)
kinds_in variables [] = Ok []
kinds_in variables (t ∷ ts) = kinds_inside variables (t ∷ ts)

-- which form notes have: a name that no note has so far, and the kinds of fields
unfoldable pub note_in : Definition → List Token → Reading NoteForm
note_in d ts = do
  x ← first_word ts
  fit ← checked (is_note_name x.value && not (is_form d.notes x.value))
  kinds ← kinds_in d.variables x.rest
  Ok (record { name = x.value; fields = kinds })
