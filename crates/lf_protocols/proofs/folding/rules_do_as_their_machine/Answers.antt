use Rattle.lf_protocols.proofs.FoldsLemmas.{own-step}
use Rattle.lf_protocols.proofs.folding.rules_do_as_their_machine.Goals as goal

pub returns-clause-step : goal.returns-clause-step
returns-clause-step c = λ m node t own inbox. own-step m node t own inbox
