use Rattle.lf_own_scenario.proofs.FittingLemmas.{given-machine}
use Rattle.lf_own_scenario.proofs.scenario_laws.constants_fit.Goals as goal

pub returns : goal.returns
returns c = given-machine
