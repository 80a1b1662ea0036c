use Rattle.std.proofs.Common.{Ok, ap, subst}
use Rattle.lf_pool.specs.Holds.{WasBegun}
use Rattle.lf_pool.proofs.shared.SharedBook.turn.Goals as goal

pub returns-in-Busy-clause-turn : goal.returns-in-Busy-clause-turn
returns-in-Busy-clause-turn g c = subst (WasBegun g.L.Searched.scenario) c.in-Busy.is c.in_ok-claim.ensures.found

pub returns-in-Deepened-clause-turn : goal.returns-in-Deepened-clause-turn
returns-in-Deepened-clause-turn g c =
    let s = g.L.Searched.scenario in
    c.turn_of.ensures.turn s (subst (WasBegun s) c.in-Deepened.is c.in_ok-claim.ensures.found)

pub returns-in-Finished-clause-turn : goal.returns-in-Finished-clause-turn
returns-in-Finished-clause-turn g c = subst (WasBegun g.L.Searched.scenario) c.in-Finished.is c.in_ok-claim.ensures.found

pub returns-in-Spent-clause-turn : goal.returns-in-Spent-clause-turn
returns-in-Spent-clause-turn g c = subst (WasBegun g.L.Searched.scenario) c.in-Spent.is c.in_ok-claim.ensures.found

pub returns-in-Ok-clause-other : goal.returns-in-Ok-clause-other
returns-in-Ok-clause-other g c = λ other. c.file.ensures.other (λ same. other (ap Ok same))
