use Rattle.std.proofs.Common.{not}
use Rattle.lf_faults.proofs.Laws.{first_is_one}
use Rattle.leastfault.specs.Answers.{reaches_in}
use Rattle.leastfault.proofs.Yes.{fewest}
use Rattle.leastfault.proofs.laws.answers_are_one.Goals as goal

pub returns-clause-one : goal.returns-clause-one
returns-clause-one c s x y a b = first_is_one s.setting.spec (λ faults. not (reaches_in s faults)) x y a b

pub returns-clause-least : goal.returns-clause-least
returns-clause-least c s x is = fewest s.setting.spec (reaches_in s) x is
