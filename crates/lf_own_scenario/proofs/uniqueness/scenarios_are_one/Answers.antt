use Rattle.lf_own_scenario.proofs.OneLemmas.{scenario-one}
use Rattle.lf_own_scenario.proofs.uniqueness.scenarios_are_one.Goals as goal

pub returns : goal.returns
returns c file text s t a b = scenario-one file text s t a b
