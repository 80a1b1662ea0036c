use Rattle.std.proofs.Common.{ap}
use Rattle.lf_sim.specs.declared.out.Stepped.{Stepped}
use Rattle.lf_sim.specs.Outs.{note_to}
use Rattle.lf_sim.proofs.PointsLemmas.{up-until, did-until, inbox-until}
use Rattle.lf_sim.proofs.points.same_until.Goals as goal

pub returns-clause-up : goal.returns-clause-up
returns-clause-up g c w faults others b same n t = up-until w faults others b same n t

pub returns-clause-views : goal.returns-clause-views
returns-clause-views g c w faults others b same n t l = ap (λ (s : Stepped _ _). s.state) (did-until w faults others b same n t l)

pub returns-clause-notes : goal.returns-clause-notes
returns-clause-notes g c w faults others b same n m t l = ap (λ (s : Stepped _ _). note_to s.out m) (did-until w faults others b same n t l)

pub returns-clause-inboxes : goal.returns-clause-inboxes
returns-clause-inboxes g c w faults others b same m u = inbox-until w faults others b same m u
