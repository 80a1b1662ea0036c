use Rattle.std.proofs.Common.{ap, ◌∙◌}
use Rattle.lf_protocols.specs.RedundantTable.{redundant_send}
use Rattle.lf_protocols.proofs.DeliveriesLemmas.{redundant_hear_all-Has, redundant_hear_all-brings, redundant_hear_all-waits}
use Rattle.lf_protocols.proofs.DeliveriesLemmas.{redundant_send-more, redundant_send-stops, IsCounted-step}
use Rattle.lf_protocols.proofs.tables.redundant_delivers.Goals as goal

pub returns-clause-relays : goal.returns-clause-relays
returns-clause-relays c = λ nodes tries node inbox some brings.
    ap (redundant_send nodes tries node) (redundant_hear_all-brings inbox brings) ∙ redundant_send-more nodes tries node 0 some

pub returns-clause-waits : goal.returns-clause-waits
returns-clause-waits c = λ nodes tries node inbox none. ap (redundant_send nodes tries node) (redundant_hear_all-waits inbox none)

pub returns-clause-repeats : goal.returns-clause-repeats
returns-clause-repeats c = λ nodes tries node sent inbox more.
    ap (redundant_send nodes tries node) (redundant_hear_all-Has sent inbox) ∙ redundant_send-more nodes tries node sent more

pub returns-clause-stops : goal.returns-clause-stops
returns-clause-stops c = λ nodes tries node sent inbox enough.
    ap (redundant_send nodes tries node) (redundant_hear_all-Has sent inbox) ∙ redundant_send-stops nodes tries node sent enough

pub returns-clause-counted : goal.returns-clause-counted
returns-clause-counted c = λ nodes tries node before inbox counted. IsCounted-step nodes tries node before inbox counted
