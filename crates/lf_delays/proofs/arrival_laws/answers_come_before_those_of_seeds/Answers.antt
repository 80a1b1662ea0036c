use Rattle.lf_delays.proofs.Answering.{over_seed}
use Rattle.lf_delays.proofs.arrival_laws.answers_come_before_those_of_seeds.Goals as goal

pub returns : goal.returns
returns g c timing b w formula answer first seed faults allowed miss = over_seed timing b w formula answer first seed faults allowed miss
