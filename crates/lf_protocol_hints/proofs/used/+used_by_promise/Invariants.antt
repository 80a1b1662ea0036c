use Rattle.lf_protocol_hints.proofs.used.+used_by_promise.Given as goal

abbrev pub decreases-used_by_promise : goal.decreases-used_by_promise
decreases-used_by_promise l = l.room
