use Rattle.lf_own_scenario.proofs.PromisedLemmas.{unfolded-says}
use Rattle.lf_own_scenario.proofs.scenario_laws.formulas_are_unfolded.Goals as goal

pub returns : goal.returns
returns c = unfolded-says
