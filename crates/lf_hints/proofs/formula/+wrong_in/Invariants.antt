use Rattle.lf_hints.proofs.formula.+wrong_in.Given as goal

abbrev pub decreases-wrong_in : goal.decreases-wrong_in
decreases-wrong_in l = l.room
