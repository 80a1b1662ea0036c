use Rattle.lf_rule_machine.proofs.RangesLemmas.{act-ranged}
use Rattle.lf_rule_machine.proofs.event_laws.events_keep_ranges.Goals as goal

pub returns : goal.returns
returns c = λ d at event turn formed ranged. act-ranged d at event turn formed ranged
