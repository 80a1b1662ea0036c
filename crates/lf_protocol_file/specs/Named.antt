-- Notes, named expressions, named guards, outcomes, and what a trace shows.
use Rattle.std.specs.Prelude.{ℕ, zero, suc, Bool, ◌==◌, if◌then◌else◌, List, [], ◌∷◌, ◌++◌, length, Option, Some, None, Ok, Err}
use Rattle.std.specs.List.{list_any}
use Rattle.std.specs.Str.{bytes_eq}
use Rattle.toml.specs.Data.{Data, string}
use Rattle.lf_rules.specs.declared.definition.Guard.{Guard}
use Rattle.lf_rules.specs.declared.definition.Named.{Named}
use Rattle.lf_rules.specs.declared.definition.NoteForm.{NoteForm}
use Rattle.lf_rules.specs.declared.definition.Variable.{Variable}
use Rattle.lf_rules.specs.declared.expr.Leaf.TheVariants as leaves
use Rattle.lf_rules.specs.declared.sort.Scope.TheVariants as scopes
use Rattle.lf_texts.specs.Forms.{note_in}
use Rattle.lf_texts.specs.Names.{is_name}
use Rattle.lf_texts.specs.Values.{guard_in, value_in}
use Rattle.lf_promises.specs.Promises.{promise_of}
use Rattle.lf_protocol_file.specs.declared.draft.Draft.{Draft}
use Rattle.lf_protocol_file.specs.declared.fault.Fault.TheVariants as faults
use Rattle.lf_protocol_file.specs.declared.declared.Outcome.{Outcome}
use Rattle.lf_protocol_file.specs.Readings.{Valued, ◌>>=◌, as_value, wanted, checked}
use Rattle.lf_protocol_file.specs.Texts.{tokens_in}
use Rattle.lf_protocol_file.specs.Drafts.{place_in, check_new, with_name, number_after}

abbrev pub and_note : NoteForm → Draft → Draft
and_note x d = record d { definition = record d.definition { notes = d.definition.notes ++ x ∷ [] } }

abbrev pub and_let : Named → Draft → Draft
and_let x d = record d { definition = record d.definition { lets = d.definition.lets ++ x ∷ [] } }

abbrev pub and_fact : Guard → Draft → Draft
and_fact x d = record d { definition = record d.definition { facts = d.definition.facts ++ x ∷ [] } }

abbrev pub and_outcome : Outcome → Draft → Draft
and_outcome x d = record d { outcomes = d.outcomes ++ x ∷ [] }

abbrev pub and_shown : ℕ → Draft → Draft
and_shown i d = record d { definition = record d.definition { trace = d.definition.trace ++ i ∷ [] } }

-- one more form of notes
unfoldable pub with_note : Draft → Data → Valued Draft
with_note d x = do
  ts ← tokens_in x
  form ← as_value (note_in d.definition ts)
  Ok (and_note form d)

-- one more named expression: its name, then its text
unfoldable pub let_in : Draft → List ℕ → Data → Valued Named
let_in d key x = do
  fit ← check_new d key
  ts ← tokens_in x
  value ← as_value (value_in (place_in d [] scopes.Let) ts)
  Ok (record { name = key; sort = value.1; value = value.0 })

unfoldable pub with_let : Draft → List ℕ → Data → Valued Draft
with_let d key x = let_in d key x >>= λ named. Ok (and_let named (with_name key (leaves.Let (number_after (length d.definition.lets))) d))

-- one more named guard
unfoldable pub fact_in : Draft → List ℕ → Data → Valued Guard
fact_in d key x = do
  fit ← check_new d key
  ts ← tokens_in x
  value ← as_value (guard_in (place_in d [] scopes.Fact) ts)
  Ok (record { name = key; value = value })

unfoldable pub with_fact : Draft → List ℕ → Data → Valued Draft
with_fact d key x = fact_in d key x >>= λ guard. Ok (and_fact guard (with_name key (leaves.Fact (number_after (length d.definition.facts))) d))

-- one more promise, whose name may mean something else as well
unfoldable pub with_outcome : Draft → List ℕ → Data → Valued Draft
with_outcome d key x = do
  fit ← checked (is_name key)
  ts ← tokens_in x
  promise ← wanted (promise_of (place_in d [] scopes.Who) ts)
  Ok (and_outcome (record { name = key; promise = promise }) d)

-- the number of the variable with a name, among those from a number on
abbrev pub variable_named : ℕ → List ℕ → List Variable → Option ℕ
variable_named i name [] = None
variable_named i name (x ∷ xs) = if bytes_eq x.name name then Some (number_after i) else variable_named (suc i) name xs

abbrev pub is_shown : List ℕ → ℕ → Bool
is_shown trace i = list_any (λ j. j == i) trace

abbrev pub shown_once : Draft → Option ℕ → Valued Draft
shown_once d None = Err faults.Unfit
shown_once d (Some i) = if is_shown d.definition.trace i then Err faults.Unfit else Ok (and_shown i d)

-- one more variable that a trace shows: one that there is, and that it doesn't show so far
abbrev pub with_shown : Draft → Data → Valued Draft
with_shown d (string name) = shown_once d (variable_named 0 name d.definition.variables)
with_shown d other = Err faults.WrongKind

-- the numbers of so many variables
abbrev pub numbers_to : ℕ → List ℕ
numbers_to zero = []
numbers_to (suc n) = numbers_to n ++ number_after n ∷ []

abbrev pub tracing : List ℕ → Draft → Draft
tracing trace d = record d { definition = record d.definition { trace = trace } }

-- a trace shows all variables
abbrev pub with_all_shown : Draft → Draft
with_all_shown d = tracing (numbers_to (length d.definition.variables)) d
