use Rattle.std.proofs.Common.{◌≡◌, drop}
use Rattle.lf_rule_machine.specs.Moments.{seen}
use Rattle.lf_rule_machine.specs.Events.{first_true}
use Rattle.lf_rule_machine.proofs.acting.first_true.Given as goal

-- the first is among the rules that are left
abbrev pub invariant-loop-rule : goal.invariant-loop-rule
invariant-loop-rule l =
    first_true l.definition (seen l.at) l.state (drop l.rule-index l.rules) ≡ first_true l.definition (seen l.at) l.state l.rules
