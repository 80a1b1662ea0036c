use Rattle.lf_why.proofs.Taken.{without_allowed, without_reaches}
use Rattle.lf_why.proofs.promises.least_sets_need_each_fault.Goals as goal

pub returns-clause-allowed : goal.returns-clause-allowed
returns-clause-allowed g c = λ b set place a within. without_allowed b set place a

pub returns-clause-reaches : goal.returns-clause-reaches
returns-clause-reaches g c = λ w b formula set place a fewest within. without_reaches w b formula set place a fewest within
