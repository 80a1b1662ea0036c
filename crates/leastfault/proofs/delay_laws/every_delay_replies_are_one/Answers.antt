use Rattle.leastfault.proofs.ReplayLemmas.{every_delay_one}
use Rattle.leastfault.proofs.delay_laws.every_delay_replies_are_one.Goals as goal

pub returns : goal.returns
returns c known text one other m n a b = every_delay_one known text one other m n a b
