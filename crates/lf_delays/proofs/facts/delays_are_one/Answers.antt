use Rattle.lf_delays.proofs.Pieces.{lists_one}
use Rattle.lf_delays.proofs.facts.delays_are_one.Goals as goal

pub returns : goal.returns
returns c timing one other limits one_are other_are same = lists_one timing limits one other one_are other_are same
