-- Values that keep to the kinds of their cells.
use Rattle.std.specs.Prelude.{◌≡◌, ℕ, ◌<◌, ◌≤◌, Some, slice_get}
use Rattle.lf_rules.specs.declared.definition.Variable.{Variable}
use Rattle.lf_rules.specs.declared.definition.Definition.{Definition}
use Rattle.lf_rules.specs.Kinds.{most_of}
use Rattle.lf_rules.specs.Tables.{count_of, others_of, cell_of}
use Rattle.lf_rule_machine.specs.declared.state.State.{State}
use Rattle.lf_rule_machine.specs.Values.{zero_or}

-- no cell of a variable has a value past the greatest of its kind
abbrev pub IsInRange : Definition → State → Type 0
IsInRange d s = (i : ℕ) (x : Variable) → slice_get d.variables i ≡ Some x → (k : ℕ) → k < count_of x.cells
    → zero_or (slice_get s.values (cell_of i (others_of d i) k)) ≤ most_of x.kind
