use Rattle.lf_protocols.proofs.BlocksLemmas.{gives-up}
use Rattle.lf_protocols.proofs.tables.prepared_gives_up.Goals as goal

pub returns : goal.returns
returns c = λ nodes patience node t votes before inbox other. gives-up nodes patience node t votes before inbox other
