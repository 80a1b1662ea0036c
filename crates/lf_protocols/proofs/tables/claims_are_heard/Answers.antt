use Rattle.lf_protocols.proofs.BlocksLemmas.{claimed-by}
use Rattle.lf_protocols.proofs.tables.claims_are_heard.Goals as goal

pub returns : goal.returns
returns c = λ nodes patience node t before inbox past. claimed-by nodes patience node t before inbox past
