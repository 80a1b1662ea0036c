use Rattle.lf_rules.proofs.Layouts.{cells-apart, cell-within}
use Rattle.lf_rules.proofs.table_laws.cells_are_apart.Goals as goal

pub returns-clause-apart : goal.returns-clause-apart
returns-clause-apart c = λ d i j x y k l here there low few same. cells-apart d i j x y k l here there low few same

pub returns-clause-within : goal.returns-clause-within
returns-clause-within c = λ d i x k here low. cell-within d i x k here low
