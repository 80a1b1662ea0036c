use Rattle.lf_protocols.proofs.FoldsLemmas.{folds}
use Rattle.lf_protocols.proofs.folding.steps_are_folds.Goals as goal

pub returns : goal.returns
returns c = λ k node t own inbox. folds k node t own inbox
