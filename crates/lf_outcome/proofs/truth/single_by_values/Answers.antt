use Rattle.lf_outcome.proofs.EntriesLemmas.{pairs, values}
use Rattle.lf_outcome.proofs.truth.single_by_values.Goals as goal

pub returns-clause-pairs : goal.returns-clause-pairs
returns-clause-pairs g c = pairs

pub returns-clause-values : goal.returns-clause-values
returns-clause-values g c = values
