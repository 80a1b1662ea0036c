use Rattle.lf_protocols.proofs.DeliveriesLemmas.{retry_hear_all-has, retry_send-sends}
use Rattle.lf_protocols.proofs.tables.retry_delivers.Goals as goal

pub returns-clause-has : goal.returns-clause-has
returns-clause-has c = λ nodes tries node t before inbox. retry_hear_all-has before inbox

pub returns-clause-sends : goal.returns-clause-sends
returns-clause-sends c = λ nodes tries node t to before inbox few. retry_send-sends nodes tries node t to few
