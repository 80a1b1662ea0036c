use Rattle.leastfault.proofs.shown.shown_reply.Goals as goal

pub returns-in-None : goal.returns-in-None
returns-in-None c = rw (c.in-None.is) c.shown_by_seed.ensures

pub returns-in-Some : goal.returns-in-Some
returns-in-Some c = rw (c.in-Some.is) c.shown_by_delays.ensures
