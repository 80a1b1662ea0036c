-- Tables, and which number of a state each of their cells has.
use Rattle.std.specs.Prelude.{ℕ, zero, suc, ◌+◌, ◌-◌, Bool, true, false, not, ◌&&◌, ◌==◌, nat_le, if◌then◌else◌}
use Rattle.std.specs.Prelude.{List, [], ◌∷◌, length, Option, None, Some, slice_get}
use Rattle.lf_rules.specs.declared.table.Cells.{Cells}
use Rattle.lf_rules.specs.declared.table.Cells.TheVariants as cells
use Rattle.lf_rules.specs.declared.table.Table.{Table}
use Rattle.lf_rules.specs.declared.definition.Variable.{Variable}
use Rattle.lf_rules.specs.declared.definition.Definition.{Definition}

-- how many cells there are
abbrev pub count_of : Cells → ℕ
count_of cells.One = 1
count_of cells.EachNode = 8
count_of (cells.UpTo count) = count

abbrev pub is_one : Cells → Bool
is_one cells.One = true
is_one other = false

abbrev pub is_each_node : Cells → Bool
is_each_node cells.EachNode = true
is_each_node other = false

abbrev pub same_cells : Cells → Cells → Bool
same_cells cells.One cells.One = true
same_cells cells.EachNode cells.EachNode = true
same_cells (cells.UpTo a) (cells.UpTo b) = a == b
same_cells one other = false

-- what a variable may have
abbrev pub is_cells : Cells → Bool
is_cells (cells.UpTo count) = nat_le 1 count && nat_le count 32
is_cells other = true

-- how many cells but their first the first n variables have
abbrev pub others_in : ℕ → List Variable → ℕ
others_in n [] = 0
others_in zero (x ∷ xs) = 0
others_in (suc n) (x ∷ xs) = count_of x.cells - 1 + others_in n xs

-- the number of the second cell of the variable with number i: the first cells of all stand before it, and the others of the variables before this one
abbrev pub others_of : Definition → ℕ → ℕ
others_of d i = length d.variables + others_in i d.variables

-- how many cells there are in all
abbrev pub cells_in : Definition → ℕ
cells_in d = others_of d (length d.variables)

-- the number of a variable's k-th cell, from 0 on, by those of its first and of its second
abbrev pub cell_of : ℕ → ℕ → ℕ → ℕ
cell_of first others k = if k == 0 then first else others + (k - 1)

-- a table is that of a variable with more places than one value
abbrev pub is_table_of : Option Variable → Cells → Bool
is_table_of None found = false
is_table_of (Some x) found = same_cells x.cells found && not (is_one found)

abbrev pub is_table : Definition → Table → Bool
is_table d t = is_table_of (slice_get d.variables t.of) t.cells && t.others == others_of d t.of
