-- What rules send.
use Rattle.std.specs.Prelude.{ℕ, List, [], codes, Ok}
use Rattle.std.specs.List.{list_any}
use Rattle.lf_rules.specs.Kinds.{sort_of}
use Rattle.lf_rules.specs.Terms.{Term}
use Rattle.lf_rules.specs.Trees.{has_it}
use Rattle.lf_rules.specs.declared.rule.Send.{Send}
use Rattle.lf_rules.specs.declared.sort.Within.TheVariants as withins
use Rattle.lf_grammar.specs.declared.sign.Sign.TheVariants as signs
use Rattle.lf_grammar.specs.declared.token.Token.{Token}
use Rattle.lf_grammar.specs.Places.{Context}
use Rattle.lf_texts.specs.Fronts.{ended, first_word, past_word}
use Rattle.lf_texts.specs.Forms.{form_from}
use Rattle.lf_texts.specs.Lists.{bracketed, listed}
use Rattle.lf_texts.specs.Reading.{Reading, ◌>>=◌, Read}
use Rattle.lf_texts.specs.Values.{with_it, first_nodes, first_of_sort}

-- to, and a set of nodes, where `it` is nothing
unfoldable pub first_receivers : Context → List Token → Reading (Read Term)
first_receivers at ts = do
  inner ← past_word (codes "to") ts
  first_nodes (with_it withins.Nothing at) inner

-- what is sent tells whether `it` stands in a value
abbrev pub sent : ℕ → List Term → Term → Send
sent form fields to = record { form = form; fields = fields; to = to; each = list_any has_it fields }

-- a note's name, a value for each of its fields, where `it` is the receiver, and the set of receivers
unfoldable pub first_send : Context → List Token → Reading (Read Send)
first_send at ts = do
  x ← first_word ts
  form ← form_from 0 x.value at.definition.notes
  fields ← bracketed (λ kind before. first_of_sort (with_it withins.Receiver at) (sort_of kind)) form.kinds [] x.rest
  to ← first_receivers at fields.rest
  Ok (record { value = sent form.number fields.value to.value; rest = to.rest })

-- what a rule sends
unfoldable pub sends_in : Context → List Token → Reading (List Send)
sends_in at ts = do
  x ← listed (λ before. first_send at) signs.Comma 8 [] ts
  end ← ended x.rest
  Ok x.value
