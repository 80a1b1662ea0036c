use Rattle.lf_delays.proofs.Replaying.{replay_notes, replay_reaches, replay_views, told_are}
use Rattle.lf_delays.proofs.facts.told_delays_replay.Goals as goal

pub returns-clause-delays : goal.returns-clause-delays
returns-clause-delays g c timing w faults on assigned = told_are timing w faults on assigned

pub returns-clause-reaches : goal.returns-clause-reaches
returns-clause-reaches g c timing w faults formula on assigned = replay_reaches timing w faults on assigned formula

pub returns-clause-views : goal.returns-clause-views
returns-clause-views g c timing w faults n t on assigned low = replay_views timing w faults on assigned n t low

pub returns-clause-notes : goal.returns-clause-notes
returns-clause-notes g c timing w faults n m t on assigned low = replay_notes timing w faults on assigned n m t low
