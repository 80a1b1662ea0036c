use Rattle.std.proofs.Common.{◌≡◌, ◌++◌, map, string_bytes}
use Rattle.std.specs.List.{join_with_byte, range_with_len}
use Rattle.lf_naming.specs.Texts.{cell_text}
use Rattle.lf_naming.proofs.state.push_cells.Given as goal

-- the cells so far
abbrev pub invariant-cells : goal.invariant-cells
invariant-cells l =
    string_bytes l.text
    ≡ string_bytes l.initial.text ++ join_with_byte 44 (map (cell_text l.definition l.state l.variable l.found) (range_with_len 0 l.k))
