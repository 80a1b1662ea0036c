use Rattle.lf_doubt.proofs.Laws.{only-rules, rule-in, taken-in}
use Rattle.lf_doubt.proofs.facts.rules_are_asked.Goals as goal

pub returns-clause-each : goal.returns-clause-each
returns-clause-each c = rule-in

pub returns-clause-only : goal.returns-clause-only
returns-clause-only c = only-rules

pub returns-clause-taken : goal.returns-clause-taken
returns-clause-taken c = taken-in
