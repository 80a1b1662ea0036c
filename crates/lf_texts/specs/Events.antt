-- What rules are on.
use Rattle.std.specs.Prelude.{ℕ, ◌||◌, if◌then◌else◌, List, [], ◌∷◌, Option, Some, None, codes, Ok}
use Rattle.std.specs.Str.{bytes_eq}
use Rattle.lf_rules.specs.declared.kind.Kind.{Kind}
use Rattle.lf_rules.specs.declared.rule.Event.{Event}
use Rattle.lf_rules.specs.declared.rule.Event.TheVariants as events
use Rattle.lf_grammar.specs.declared.token.Token.{Token}
use Rattle.lf_grammar.specs.Places.{Context}
use Rattle.lf_grammar.specs.declared.place.Meaning.{Meaning}
use Rattle.lf_texts.specs.declared.events.Heard.{Heard}
use Rattle.lf_texts.specs.Fronts.{ended, first_word}
use Rattle.lf_texts.specs.Forms.{form_from}
use Rattle.lf_texts.specs.Lists.{bracketed}
use Rattle.lf_texts.specs.Names.{is_free}
use Rattle.lf_texts.specs.Reading.{Reading, ◌>>=◌, Read, checked}

-- the events that are no note's
abbrev pub event_named : List ℕ → Option Event
event_named word =
    if bytes_eq word (codes "start") then Some events.Start else if bytes_eq word (codes "wake") then Some events.Wake
    else if bytes_eq word (codes "begin") then Some events.Begin else if bytes_eq word (codes "end") then Some events.End else None

-- a name for a field behind others: one that is free, or _
unfoldable pub first_bind : List Meaning → List (List ℕ) → List Token → Reading (Read (List ℕ))
first_bind names before ts = do
  x ← first_word ts
  fit ← checked (bytes_eq x.value (codes "_") || is_free names before x.value)
  Ok x

-- a name for each field in brackets, or no names
unfoldable pub names_inside : List Meaning → List Kind → List Token → Reading (List (List ℕ))
names_inside names kinds ts = do
  x ← bracketed (λ kind. first_bind names) kinds [] ts
  end ← ended x.rest
  Ok x.value

abbrev pub names_in : List Meaning → List Kind → List Token → Reading (List (List ℕ))
names_in names kinds [] = Ok []
names_in names kinds (t ∷ ts) = names_inside names kinds (t ∷ ts)

-- a note's name, and behind it the names of its fields
unfoldable pub heard_in : Context → List ℕ → List Token → Reading Heard
heard_in at word ts = do
  form ← form_from 0 word at.definition.notes
  fields ← names_in at.names form.kinds ts
  Ok (record { on = events.Note form.number; fields = fields })

abbrev pub event_by : Context → Read (List ℕ) → Option Event → Reading Heard
event_by at x None = heard_in at x.value x.rest
event_by at x (Some on) = ended x.rest >>= λ end. Ok (record { on = on; fields = [] })

-- what a rule is on
unfoldable pub event_in : Context → List Token → Reading Heard
event_in at ts = do
  x ← first_word ts
  event_by at x (event_named x.value)
