use Rattle.leastfault.proofs.replies.full_line.Goals as goal

pub returns : goal.returns
returns c = c.format.ensures.ok
