use Rattle.lf_scenario.proofs.Laws.{scenarios_are_one}
use Rattle.lf_scenario.proofs.uniqueness.scenarios_are_one.Goals as goal

pub returns : goal.returns
returns c text s t a b = scenarios_are_one text s t a b
