use Rattle.lf_tree.proofs.PlaceLemmas.{rows-are-one}
use Rattle.lf_tree.proofs.facts.rows_are_one.Goals as goal

pub returns : goal.returns
returns c = rows-are-one
