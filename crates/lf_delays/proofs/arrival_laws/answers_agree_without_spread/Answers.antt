use Rattle.lf_delays.proofs.Answering.{without_spread}
use Rattle.lf_delays.proofs.arrival_laws.answers_agree_without_spread.Goals as goal

pub returns : goal.returns
returns g c timing b w formula answer limits on none first = without_spread timing b w formula limits on none answer first
