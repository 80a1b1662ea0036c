use Rattle.std.proofs.Common.{ap}
use Rattle.lf_sim.specs.declared.out.Stepped.{Stepped}
use Rattle.lf_sim.proofs.RunsLemmas.{did-zero, did-down, sent-zero, sent-down}
use Rattle.lf_sim.proofs.PointsLemmas.{IsRunning-up, up-IsRunning, StepsFrom-awake, StepsFrom-woken, Reaches-inbox, inbox-Reaches, inbox-ordered}
use Rattle.lf_sim.proofs.points.by_points.Goals as goal

pub returns-clause-start : goal.returns-clause-start
returns-clause-start g c w faults n = ap (λ (s : Stepped _ _). s.state) (did-zero w faults n)

pub returns-clause-unsent : goal.returns-clause-unsent
returns-clause-unsent g c w faults n m = sent-zero w faults n m

pub returns-clause-up : goal.returns-clause-up
returns-clause-up g c w faults n t = (IsRunning-up w faults n t, up-IsRunning w faults n t)

pub returns-clause-steps : goal.returns-clause-steps
returns-clause-steps g c w faults n t = StepsFrom-awake w faults n t

pub returns-clause-wakes : goal.returns-clause-wakes
returns-clause-wakes g c w faults n t = StepsFrom-woken w faults n t

pub returns-clause-keeps : goal.returns-clause-keeps
returns-clause-keeps g c w faults n t h = ap (λ (s : Stepped _ _). s.state) (did-down w faults n t h)

pub returns-clause-silent : goal.returns-clause-silent
returns-clause-silent g c w faults n m t = sent-down w faults n m t

pub returns-clause-members : goal.returns-clause-members
returns-clause-members g c w faults later m u letter node = (Reaches-inbox w faults m u letter, inbox-Reaches w faults later m u letter node)

pub returns-clause-order : goal.returns-clause-order
returns-clause-order g c w faults m u = inbox-ordered w faults m u
