-- Whether a promise names facts of its definition alone.
use Rattle.std.specs.Prelude.{ℕ, Bool, true, false, ◌&&◌, nat_lt, min, length, Option, None, Some, slice_get}
use Rattle.std.specs.List.{list_all}
use Rattle.lf_rules.specs.declared.kind.Kind.{Kind}
use Rattle.lf_rules.specs.declared.kind.Kind.TheVariants as kinds
use Rattle.lf_rules.specs.declared.definition.Variable.{Variable}
use Rattle.lf_rules.specs.Tables.{is_one}
use Rattle.lf_rules.specs.declared.definition.Definition.{Definition}
use Rattle.lf_rule_machine.specs.declared.fact.Told.{Told}
use Rattle.lf_rule_machine.specs.declared.fact.Told.TheVariants as tolds
use Rattle.lf_promises.specs.declared.promise.Promise.{Promise, fold-Promise}
use Rattle.lf_promises.specs.declared.promise.Promise.TheOpen.{Promise-F}

-- the number of one of so many things; a number is at most 255
abbrev pub is_number : ℕ → ℕ → Bool
is_number number count = nat_lt number (min count 256)

-- the variable is there, is no table, and has a word with the number
abbrev pub has_word : Option Variable → ℕ → Bool
has_word None word = false
has_word (Some x) word = is_one x.cells && is_number word (length x.words)

-- the variable is there, is no table, and is a flag
abbrev pub is_flag_kind : Kind → Bool
is_flag_kind kinds.Flag = true
is_flag_kind other = false

abbrev pub is_flag : Option Variable → Bool
is_flag None = false
is_flag (Some x) = is_one x.cells && is_flag_kind x.kind

-- what a fact is about is there, by its numbers
abbrev pub has_told : Definition → Told → Bool
has_told d (tolds.Named guard) = is_number guard (length d.facts)
has_told d (tolds.Word variable word) = is_number variable (length d.variables) && has_word (slice_get d.variables variable) word
has_told d (tolds.Flag variable) = is_number variable (length d.variables) && is_flag (slice_get d.variables variable)
has_told d tolds.Clamped = true
has_told d tolds.Replaced = true

-- one level, with the truth of each part in its place
abbrev pub facts_step : Definition → Promise-F Bool → Bool
facts_step d (Promise-F.All parts) = list_all (λ b. b) parts
facts_step d (Promise-F.Any parts) = list_all (λ b. b) parts
facts_step d (Promise-F.Always parts) = list_all (λ b. b) parts
facts_step d (Promise-F.Ever parts) = list_all (λ b. b) parts
facts_step d (Promise-F.Nodes many fact of) = has_told d fact.told
facts_step d (Promise-F.Down n) = true
facts_step d (Promise-F.At n fact) = has_told d fact.told
facts_step d (Promise-F.One topic) = true

-- each fact that it names is one of the definition's, denied or not; of the expressions of a topic nothing is asked
abbrev pub names_facts : Definition → Promise → Bool
names_facts d = fold-Promise Bool (facts_step d)
