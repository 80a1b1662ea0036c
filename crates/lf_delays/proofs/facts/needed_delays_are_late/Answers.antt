use Rattle.lf_delays.proofs.Sparing.{late_are, tight_by}
use Rattle.lf_delays.proofs.facts.needed_delays_are_late.Goals as goal

pub returns-clause-late : goal.returns-clause-late
returns-clause-late g c timing w faults formula ds on are misses needed d = late_are timing w faults formula on ds are misses needed d

pub returns-clause-tight : goal.returns-clause-tight
returns-clause-tight g c timing w faults formula ds on are misses needed = tight_by timing w faults formula on ds are misses needed
