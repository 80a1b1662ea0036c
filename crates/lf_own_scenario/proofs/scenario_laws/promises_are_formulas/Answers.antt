use Rattle.lf_own_scenario.proofs.RangeLemmas.{formula-of}
use Rattle.lf_own_scenario.proofs.scenario_laws.promises_are_formulas.Goals as goal

pub returns : goal.returns
returns c = formula-of
