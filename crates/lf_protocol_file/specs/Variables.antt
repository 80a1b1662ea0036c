-- The variables of a node's state.
use Rattle.std.specs.Prelude.{ℕ, suc, nat_le, if◌then◌else◌, List, [], ◌∷◌, ◌++◌, length, Ok, Err}
use Rattle.std.specs.Str.{bytes_eq}
use Rattle.toml.specs.Data.{Data}
use Rattle.lf_rules.specs.declared.definition.Variable.{Variable}
use Rattle.lf_rules.specs.declared.expr.Leaf.TheVariants as leaves
use Rattle.lf_rules.specs.declared.kind.Kind.{Kind}
use Rattle.lf_rules.specs.declared.kind.Kind.TheVariants as kinds
use Rattle.lf_rules.specs.declared.sort.Scope.TheVariants as scopes
use Rattle.lf_rules.specs.declared.table.Cells.{Cells}
use Rattle.lf_rules.specs.Tables.{cells_in}
use Rattle.lf_texts.specs.Variables.{variable_in}
use Rattle.lf_texts.specs.declared.variables.VariableText.{VariableText}
use Rattle.lf_texts.specs.declared.variables.VariableText.TheVariants as texts
use Rattle.lf_protocol_file.specs.declared.draft.Draft.{Draft}
use Rattle.lf_protocol_file.specs.declared.error.ProtocolError.TheVariants as refusals
use Rattle.lf_protocol_file.specs.declared.fault.Fault.TheVariants as faults
use Rattle.lf_protocol_file.specs.declared.path.Path.TheVariants as paths
use Rattle.lf_protocol_file.specs.declared.section.Naming.TheVariants as namings
use Rattle.lf_protocol_file.specs.declared.section.Section.TheVariants as sections
use Rattle.lf_protocol_file.specs.declared.variables.Sketch.{Sketch}
use Rattle.lf_protocol_file.specs.Refusals.{shown}
use Rattle.lf_protocol_file.specs.Readings.{Valued, Reading, ◌>>=◌, as_value, located}
use Rattle.lf_protocol_file.specs.Texts.{tokens_in}
use Rattle.lf_protocol_file.specs.Drafts.{place_in, check_new, with_name, number_after}

-- what the text of a variable says: how many cells it has, and what each of them holds
unfoldable pub held_in : Draft → Data → Valued (Cells × VariableText)
held_in d x = do
  ts ← tokens_in x
  as_value (variable_in (place_in d [] scopes.Given) ts)

-- words of a variable mean something, counted from one on
abbrev pub with_words : ℕ → ℕ → List (List ℕ) → Draft → Draft
with_words of i [] d = d
with_words of i (w ∷ ws) d = with_words of (suc i) ws (with_name w (leaves.Word of (number_after i)) d)

abbrev pub with_words_of : ℕ → VariableText → Draft → Draft
with_words_of of (texts.Words words) d = with_words of 0 words d
with_words_of of other d = d

abbrev pub with_held : Sketch → Draft → Draft
with_held x d = record d { sketches = d.sketches ++ x ∷ [] }

-- the text of a variable that has a number: its words mean something from then on
unfoldable pub with_text : ℕ → Draft → List ℕ → Data → Valued Draft
with_text number d key x = do
  text ← held_in d x
  Ok (with_held (record { name = key; cells = text.0; held = text.1 }) (with_words_of number text.1 d))

-- one more variable: its name, then its text
unfoldable pub with_sketch : Draft → List ℕ → Data → Valued Draft
with_sketch d key x = do
  fit ← check_new d key
  with_text (number_after (length d.sketches)) (with_name key (leaves.Variable (number_after (length d.sketches))) d) key x

-- the kind that the own text of a variable says, which has a number
abbrev pub own_kind : ℕ → VariableText → Valued Kind
own_kind i (texts.Kind kind) = Ok kind
own_kind i (texts.Like name) = Err faults.Unfit
own_kind i (texts.Words words) = Ok (kinds.Word (number_after i) (number_after (length words)))

-- the kind of the variable with a name, among those from a number on
abbrev pub kind_like : ℕ → List ℕ → List Sketch → Valued Kind
kind_like i name [] = Err faults.Unfit
kind_like i name (x ∷ xs) = if bytes_eq x.name name then own_kind i x.held else kind_like (suc i) name xs

-- the kind of a variable among all
abbrev pub kind_of : List Sketch → ℕ → VariableText → Valued Kind
kind_of all i (texts.Like name) = kind_like 0 name all
kind_of all i other = own_kind i other

abbrev pub words_of : VariableText → List (List ℕ)
words_of (texts.Words words) = words
words_of other = []

abbrev pub variable_of : Sketch → Kind → Variable
variable_of x kind = record { name = x.name; kind = kind; cells = x.cells; words = words_of x.held }

-- a variable, by its number
abbrev pub variable_at : List Sketch → ℕ → Sketch → Reading Variable
variable_at all i x = located (paths.Entry namings.State (shown x.name)) (kind_of all i x.held) >>= λ kind. Ok (variable_of x kind)

-- the variables from a number on, behind those before
abbrev pub variables_behind : List Sketch → List Variable → ℕ → List Sketch → Reading (List Variable)
variables_behind all before i [] = Ok before
variables_behind all before i (x ∷ xs) = variable_at all i x >>= λ v. variables_behind all (before ++ v ∷ []) (suc i) xs

abbrev pub settled : List Variable → Draft → Draft
settled variables d = record d { definition = record d.definition { variables = variables }; sketches = [] }

-- there are no more than 64 cells in all
abbrev pub limited : Draft → Reading Draft
limited d = if nat_le (cells_in d.definition) 64 then Ok d else Err (refusals.PastLimit (paths.Section (sections.Naming namings.State)))

-- all variables, now that all are there
unfoldable pub with_variables : Draft → Reading Draft
with_variables d = do
  variables ← variables_behind d.sketches [] 0 d.sketches
  limited (settled variables d)
