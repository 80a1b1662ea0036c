use Rattle.leastfault.proofs.delayed.answer_asked.Goals as goal

pub returns-then-every_delay : goal.returns-then-every_delay
returns-then-every_delay g c = rw (c.if-every_delay.true) c.every_delay_reply.ensures

pub returns-else-every_delay : goal.returns-else-every_delay
returns-else-every_delay g c = rw (c.if-every_delay.false) c.answer_reply.ensures
