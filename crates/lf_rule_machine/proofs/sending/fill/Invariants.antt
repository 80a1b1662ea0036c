use Rattle.std.proofs.Common.{◌≡◌, drop}
use Rattle.lf_rule_machine.specs.Moments.{seen}
use Rattle.lf_rule_machine.specs.Events.{fill}
use Rattle.lf_rule_machine.proofs.sending.fill.Given as goal

-- the fields that follow are those that are left
abbrev pub invariant-loop-k : goal.invariant-loop-k
invariant-loop-k l =
    fill l.definition (seen l.at) l.kinds (record { state = l.state; fields = l.fields }) l.k (drop l.k l.values)
    ≡ fill l.definition (seen l.at) l.kinds (record { state = l.initial.state; fields = l.initial.fields }) 0 l.values
