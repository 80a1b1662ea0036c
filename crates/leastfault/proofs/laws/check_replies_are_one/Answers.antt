use Rattle.leastfault.proofs.Uniqueness.{check_replies_one}
use Rattle.leastfault.proofs.laws.check_replies_are_one.Goals as goal

pub returns : goal.returns
returns c known text certificate one other m n a b =
    check_replies_one c.texts_are_json.ensures.json c.texts_are_json.ensures.read_back known text certificate one other m n a b
