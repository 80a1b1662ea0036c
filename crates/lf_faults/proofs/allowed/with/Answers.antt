use Rattle.std.proofs.Common.{◌<◌, length, arith, rules}
use Rattle.std.proofs.lemmas.Bool.{false≢true}
use Rattle.lf_faults.proofs.Allowing.{budget-from_allowed}
use Rattle.lf_faults.proofs.allowed.with.Goals as goal

pub returns-in-Some : goal.returns-in-Some
returns-in-Some c = search rules

pub returns-in-None : goal.returns-in-None
returns-in-None c =
    let room : length c.args.set.now < 6 =
    omega (arith, budget-from_allowed c.args.spec.now c.args.set.now c.args.fault c.requires.1, c.budget-limits.ensures.limits.budget) in
    absurd (false≢true (c.in-None.ensures.some.1 (c.requires.0, room)))
