use Rattle.std.proofs.Common.{◌∙◌, sym}
use Rattle.lf_rule_machine.specs.Moments.{seen}
use Rattle.lf_rule_machine.proofs.ValuesLemmas.{in_fact-other}
use Rattle.lf_rule_machine.proofs.values.guard_leaf.Goals as goal

pub returns-in_default-clause-value : goal.returns-in_default-clause-value
returns-in_default-clause-value c =
    c.plain_leaf.ensures.value ∙ sym (in_fact-other c.args.definition.now (seen c.args.at.now) c.args.state.now c.args.leaf c.in_default.not-Let)
