use Rattle.lf_rule_machine.proofs.FactRangesLemmas.{start-ranged, step-ranged, wake-ranged}
use Rattle.lf_rule_machine.proofs.machine_laws.values_are_of_their_kinds.Goals as goal

pub returns-clause-start : goal.returns-clause-start
returns-clause-start c = λ m node formed. start-ranged m.definition m.nodes m.given formed node

pub returns-clause-step : goal.returns-clause-step
returns-clause-step c = λ m node t state inbox formed ranged. step-ranged m.definition m.nodes m.given formed node t state inbox ranged

pub returns-clause-wake : goal.returns-clause-wake
returns-clause-wake c = λ m node t state formed ranged. wake-ranged m.definition m.nodes m.given formed node t state ranged
