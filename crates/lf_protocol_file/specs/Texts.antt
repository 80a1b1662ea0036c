-- Values of a protocol file.
use Rattle.std.specs.Prelude.{ℕ, suc, List, Err}
use Rattle.toml.specs.Data.{Data, string, Items, no_items, item, Members, no_members, member}
use Rattle.lf_grammar.specs.declared.token.Token.{Token}
use Rattle.lf_texts.specs.Fronts.{text_in}
use Rattle.lf_protocol_file.specs.declared.fault.Fault.TheVariants as faults
use Rattle.lf_protocol_file.specs.Readings.{Valued, as_value}

-- the tokens of a value that has to be a text
abbrev pub tokens_in : Data → Valued (List Token)
tokens_in (string text) = as_value (text_in text)
tokens_in other = Err faults.WrongKind

-- how many there are
abbrev pub count_items : Items → ℕ
count_items no_items = 0
count_items (item x xs) = suc (count_items xs)

abbrev pub count_members : Members → ℕ
count_members no_members = 0
count_members (member key x ms) = suc (count_members ms)
