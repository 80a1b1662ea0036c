use Rattle.std.proofs.Common.{arith}
use Rattle.lf_scenario.proofs.FormulaLemmas.{shows_in-other}
use Rattle.lf_scenario.proofs.outcomes.shows_in.Goals as goal

pub returns-then-items-ne3 : goal.returns-then-items-ne3
returns-then-items-ne3 c = shows_in-other c.args.described.now.protocol c.args.described.now.bounds c.args.items.now (λ same. omega arith)
