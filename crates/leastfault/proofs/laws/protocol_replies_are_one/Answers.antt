use Rattle.leastfault.proofs.Uniqueness.{protocol_replies_one}
use Rattle.leastfault.proofs.laws.protocol_replies_are_one.Goals as goal

pub returns : goal.returns
returns c text one other m n a b =
    protocol_replies_one c.refusals_are_one.ensures.one c.refusals_are_one.ensures.none text one other m n a b
