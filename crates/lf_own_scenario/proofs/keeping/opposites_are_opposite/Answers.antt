use Rattle.lf_own_scenario.proofs.KeepingLemmas.{opposites}
use Rattle.lf_own_scenario.proofs.keeping.opposites_are_opposite.Goals as goal

pub returns : goal.returns
returns c = opposites
