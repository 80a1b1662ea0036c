-- What crates above need of expressions, to share them among threads, and of the numbers of cells.
use Rattle.std.proofs.Common.{◌≡◌, ℕ, ◌<◌}
use Rattle.std.specs.Prelude.{Some, slice_get}
use Rattle.lf_rules.specs.declared.definition.Variable.{Variable}
use Rattle.lf_rules.specs.declared.definition.Definition.{Definition}
use Rattle.lf_rules.specs.Tables.{count_of, others_of, cell_of}
use Rattle.lf_rules.proofs.expr.Tree.TheLaws.TheKnot as tree
use Rattle.lf_rules.proofs.Layouts as layouts

-- expressions may cross threads: a set for `search`
pub ruleset trees_cross = (tree.crosses)

-- two cells of a definition with the same number are one: the same cell of the same variable
pub cells-apart : (d : Definition) (i j : ℕ) (x y : Variable) (k l : ℕ) → slice_get d.variables i ≡ Some x → slice_get d.variables j ≡ Some y
    → k < count_of x.cells → l < count_of y.cells → cell_of i (others_of d i) k ≡ cell_of j (others_of d j) l → (i ≡ j) × (k ≡ l)
cells-apart d i j x y k l here there low few same = layouts.cells-apart d i j x y k l here there low few same
