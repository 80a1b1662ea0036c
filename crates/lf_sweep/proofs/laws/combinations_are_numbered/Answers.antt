use Rattle.lf_sweep.proofs.CombinationLemmas.{places_numbered, places_one}
use Rattle.lf_sweep.proofs.laws.combinations_are_numbered.Goals as goal

pub returns-clause-places : goal.returns-clause-places
returns-clause-places c = places_numbered

pub returns-clause-one : goal.returns-clause-one
returns-clause-one c = places_one
