use Rattle.lf_residual.proofs.judged.Judged.evidence.Goals as goal

pub returns-then-branch-clause-points : goal.returns-then-branch-clause-points
returns-then-branch-clause-points c = c.in_ok-fill_evidence.ensures.points c.if-branch.true
