use Rattle.std.proofs.Common.{◌≡◌, true, subst}
use Rattle.lf_rules.specs.Forms.{is_well_formed}
use Rattle.rule_examples.proofs.singles.views_are_those_of_notes.Goals as goal

pub returns : goal.returns
returns c = λ w faults ruled node t.
    c.runs_with_single_notes.ensures.views c.args.machine.now w faults
    (c.one_form_sends_single_notes.ensures c.args.machine.now w faults
    (subst (λ d. is_well_formed d ≡ true) c.definition-definition.ensures.value c.definition-definition.ensures.well_formed) c.requires ruled) node t
