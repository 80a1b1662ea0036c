use Rattle.leastfault.proofs.shown.with_rules.Goals as goal

pub returns-in-Some : goal.returns-in-Some
returns-in-Some c = rw (c.in-Some.is) c.rules_reply.ensures

pub returns-in-None : goal.returns-in-None
returns-in-None c = rw (c.in-None.is) c.run_reply.ensures
