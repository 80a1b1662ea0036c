use Rattle.lf_own_scenario.proofs.PromisedLemmas.{promised}
use Rattle.lf_own_scenario.proofs.kept.outcomes_are_kept.Goals as goal

pub returns : goal.returns
returns c file members words s there asked = promised file members words s there asked
