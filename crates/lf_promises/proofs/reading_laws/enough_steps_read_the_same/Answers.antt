use Rattle.lf_promises.proofs.StepLemmas.{promise-same}
use Rattle.lf_promises.proofs.reading_laws.enough_steps_read_the_same.Goals as goal

pub returns : goal.returns
returns c at m n timed next ts g h = promise-same at m n timed next ts g h
