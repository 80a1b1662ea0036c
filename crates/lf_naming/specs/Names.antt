-- The names that stand in a definition. What a number names that there isn't has no name: no bytes.
use Rattle.std.specs.Prelude.{ℕ, Bool, true, false, List, [], ◌++◌, codes, Option, None, Some, slice_get}
use Rattle.lf_rules.specs.declared.definition.Guard.{Guard}
use Rattle.lf_rules.specs.declared.definition.Variable.{Variable}
use Rattle.lf_rules.specs.declared.definition.Definition.{Definition}
use Rattle.lf_rule_machine.specs.declared.fact.Told.{Told}
use Rattle.lf_rule_machine.specs.declared.fact.Told.TheVariants as tolds
use Rattle.lf_rule_machine.specs.declared.fact.Fact.{Fact}

-- a name, if there is one
abbrev pub or_nothing : Option (List ℕ) → List ℕ
or_nothing None = []
or_nothing (Some name) = name

-- the name of a guard, and of a variable
abbrev pub guard_name : Option Guard → List ℕ
guard_name None = []
guard_name (Some x) = x.name

abbrev pub variable_name : Option Variable → List ℕ
variable_name None = []
variable_name (Some x) = x.name

-- the word of a variable with a number
abbrev pub word_name : Option Variable → ℕ → List ℕ
word_name None word = []
word_name (Some x) word = or_nothing (slice_get x.words word)

-- a name, with `not_` before it where it is denied
abbrev pub not_if : Bool → List ℕ → List ℕ
not_if true name = codes "not_" ++ name
not_if false name = name

-- the name of what a fact is about: that of the guard, the word or the flag, `clamped` or `replaced`
abbrev pub told_name : Definition → Told → List ℕ
told_name d (tolds.Named guard) = guard_name (slice_get d.facts guard)
told_name d (tolds.Word variable word) = word_name (slice_get d.variables variable) word
told_name d (tolds.Flag variable) = variable_name (slice_get d.variables variable)
told_name d tolds.Clamped = codes "clamped"
told_name d tolds.Replaced = codes "replaced"

-- the name of a fact
abbrev pub fact_name : Definition → Fact → List ℕ
fact_name d fact = not_if fact.denied (told_name d fact.told)
