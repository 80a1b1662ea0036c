use Rattle.lf_pool.proofs.solving.fn.work_all.scope.Given as goal

abbrev pub invariant-loop-share : goal.invariant-loop-share
invariant-loop-share g l = Unit {0}
