use Rattle.std.proofs.Common.{◌≡◌, map}
use Rattle.std.specs.List.{range_with_len}
use Rattle.lf_rule_machine.specs.Indexes.{row_at}
use Rattle.lf_rule_machine.proofs.index.rows.Given as goal

-- the rows so far
abbrev pub invariant-loop-place : goal.invariant-loop-place
invariant-loop-place l = map (λ row. row.items) l.rows.items ≡ map (row_at l.definition l.nodes l.given) (range_with_len 0 l.place)
