use Rattle.std.proofs.Common.{◌≡◌, ℕ, ◌<◌, [], length, get_or}
use Rattle.lf_scenario.proofs.links.has_eight_rows.Given as goal

abbrev pub invariant-rows : goal.invariant-rows
invariant-rows l = (n : ℕ) → n < l.row-index → length (get_or l.table n []) ≡ 8
