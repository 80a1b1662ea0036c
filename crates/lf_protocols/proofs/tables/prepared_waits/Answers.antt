use Rattle.lf_protocols.proofs.BlocksLemmas.{prepared-waits}
use Rattle.lf_protocols.proofs.tables.prepared_waits.Goals as goal

pub returns : goal.returns
returns c = λ nodes patience node t since votes inbox other commits aborts. prepared-waits nodes patience node t since votes inbox other commits aborts
