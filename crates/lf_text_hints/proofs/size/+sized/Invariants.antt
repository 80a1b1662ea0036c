use Rattle.lf_text_hints.proofs.size.+sized.Given as goal

abbrev pub decreases-sized : goal.decreases-sized
decreases-sized l = l.room
