-- Which facts a definition has, and which of them has a name.
use Rattle.std.specs.Prelude.{ℕ, Bool, true, false, List, [], ◌∷◌, ◌++◌, length, min, Option, None, Some, find, slice_get, if◌then◌else◌}
use Rattle.std.specs.List.{flat_map, range_with_len}
use Rattle.std.specs.Str.{bytes_eq}
use Rattle.lf_rules.specs.declared.kind.Kind.{Kind}
use Rattle.lf_rules.specs.declared.kind.Kind.TheVariants as kinds
use Rattle.lf_rules.specs.declared.definition.Variable.{Variable}
use Rattle.lf_rules.specs.Tables.{is_one}
use Rattle.lf_rules.specs.declared.definition.Definition.{Definition}
use Rattle.lf_rule_machine.specs.declared.fact.Told.{Told}
use Rattle.lf_rule_machine.specs.declared.fact.Told.TheVariants as tolds
use Rattle.lf_rule_machine.specs.declared.fact.Fact.{Fact}
use Rattle.lf_naming.specs.Names.{fact_name}

-- the numbers of so many things; a number is at most 255
abbrev pub numbers : ℕ → List ℕ
numbers count = range_with_len 0 (min count 256)

-- the fact that something is so, and its denial
abbrev pub both : Told → List Fact
both told = record { told = told; denied = false } ∷ record { told = told; denied = true } ∷ []

-- the facts of the named guards
abbrev pub guard_facts : Definition → List Fact
guard_facts d = flat_map (λ guard. both (tolds.Named guard)) (numbers (length d.facts))

-- the facts of the words of a variable that is no table, and of all variables
abbrev pub own_words : ℕ → Option Variable → List Fact
own_words variable None = []
own_words variable (Some x) = if is_one x.cells then flat_map (λ word. both (tolds.Word variable word)) (numbers (length x.words)) else []

abbrev pub word_facts : Definition → List Fact
word_facts d = flat_map (λ variable. own_words variable (slice_get d.variables variable)) (numbers (length d.variables))

-- the facts of a variable, if it is a flag and no table, and of all variables
abbrev pub if_flag : ℕ → Kind → List Fact
if_flag variable kinds.Flag = both (tolds.Flag variable)
if_flag variable other = []

abbrev pub own_flag : ℕ → Option Variable → List Fact
own_flag variable None = []
own_flag variable (Some x) = if is_one x.cells then if_flag variable x.kind else []

abbrev pub flag_facts : Definition → List Fact
flag_facts d = flat_map (λ variable. own_flag variable (slice_get d.variables variable)) (numbers (length d.variables))

-- the facts of a definition, in order
abbrev pub facts_of : Definition → List Fact
facts_of d = guard_facts d ++ (word_facts d ++ (flag_facts d ++ (both tolds.Clamped ++ both tolds.Replaced)))

-- the word is the name of the fact
abbrev pub has_name : Definition → List ℕ → Fact → Bool
has_name d word fact = bytes_eq word (fact_name d fact)

-- the first fact that has the name
abbrev pub fact_named : Definition → List ℕ → Option Fact
fact_named d word = find (has_name d word) (facts_of d)
