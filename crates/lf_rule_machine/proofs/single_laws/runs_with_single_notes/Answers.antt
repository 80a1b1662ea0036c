use Rattle.lf_rule_machine.proofs.SingleRunsLemmas.{up-single, view-single, sent-single, inbox-single, shown-single}
use Rattle.lf_rule_machine.proofs.single_laws.runs_with_single_notes.Goals as goal

pub returns-clause-up : goal.returns-clause-up
returns-clause-up c = up-single

pub returns-clause-views : goal.returns-clause-views
returns-clause-views c = view-single

pub returns-clause-sent : goal.returns-clause-sent
returns-clause-sent c = sent-single

pub returns-clause-letters : goal.returns-clause-letters
returns-clause-letters c = inbox-single

pub returns-clause-shown : goal.returns-clause-shown
returns-clause-shown c = shown-single
