-- What stands at a place.
use Rattle.std.specs.Prelude.{ℕ, ◌-◌, ◌&&◌, nat_lt, nat_le, if◌then◌else◌, List, Option, None, Some, slice_get, option_map}
use Rattle.lf_rules.specs.declared.table.Cells.{Cells}
use Rattle.lf_rules.specs.declared.table.Cells.TheVariants as cells
use Rattle.lf_rules.specs.declared.table.Table.{Table}
use Rattle.lf_rules.specs.declared.expr.Row.{Row}
use Rattle.lf_rules.specs.declared.expr.Row.TheVariants as rows
use Rattle.lf_rules.specs.Tables.{cell_of}
use Rattle.lf_rule_machine.specs.declared.state.State.{State}
use Rattle.lf_rule_machine.specs.Moments.{Moment, row_of}

-- a number of a list, and 0 where there is none
abbrev pub zero_or : Option ℕ → ℕ
zero_or None = 0
zero_or (Some v) = v

-- which cell stands at a place, from 0 on: the places are the nodes that there are, or the numbers from 1 on
abbrev pub index_of : ℕ → Cells → ℕ → Option ℕ
index_of nodes cells.One place = None
index_of nodes cells.EachNode place = if nat_lt place nodes && nat_lt place 8 then Some place else None
index_of nodes (cells.UpTo most) place = if nat_le 1 place && nat_le place most then Some (place - 1) else None

-- the number of a table's cell at a place, if there is such a place
abbrev pub cell_at : ℕ → Table → ℕ → Option ℕ
cell_at nodes t place = option_map (cell_of t.of t.others) (index_of nodes t.cells place)

abbrev pub item_or : List ℕ → Option ℕ → ℕ
item_or items None = 0
item_or items (Some i) = zero_or (slice_get items i)

-- a constant's value at a node that there is
abbrev pub given_at : Moment → ℕ → ℕ → ℕ
given_at at i n = if nat_lt n at.nodes then zero_or (slice_get (row_of (slice_get at.given n)) i) else 0

abbrev pub stands : Moment → State → Row → ℕ → ℕ
stands at s (rows.Table t) place = item_or s.values (cell_at at.nodes t place)
stands at s (rows.Given i) place = given_at at i place
