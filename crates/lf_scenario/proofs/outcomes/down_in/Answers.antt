use Rattle.std.proofs.Common.{arith}
use Rattle.lf_scenario.proofs.FormulaLemmas.{down_in-other}
use Rattle.lf_scenario.proofs.outcomes.down_in.Goals as goal

pub returns-then-items-ne2 : goal.returns-then-items-ne2
returns-then-items-ne2 c = down_in-other c.args.described.now.bounds c.args.items.now (λ same. omega arith)
