use Rattle.std.proofs.Common.{subst, sym}
use Rattle.leastfault.specs.declared.answering.Wanted.TheVariants as wanted
use Rattle.leastfault.specs.Searches.{IsEndFor}
use Rattle.leastfault.proofs.workers.searched.Goals as goal

pub returns-in-Answer : goal.returns-in-Answer
returns-in-Answer g c =
    let found = subst (λ s. IsEndFor wanted.Answer c.args.workers s c.answered.result) c.in-Ok.ensures.ok c.answered.ensures in
    subst (λ w. IsEndFor w c.args.workers c.args.scenario c.answered.result) (sym c.in-Answer.is) found

pub returns : goal.returns
returns g c =
    let found = subst (λ s. IsEndFor wanted.AllLeast c.args.workers s c.listed.result) c.in-Ok.ensures.ok c.listed.ensures in
    subst (λ w. IsEndFor w c.args.workers c.args.scenario c.listed.result) (sym c.in-AllLeast.is) found
