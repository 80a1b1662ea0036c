use Rattle.std.proofs.Common.{◌≡◌, ◌+◌, drop}
use Rattle.lf_rule_machine.specs.Moments.{seen}
use Rattle.lf_taken.specs.Numbers.{number_true}
use Rattle.lf_taken.proofs.numbers.number_true.Given as goal

-- the first is among the rules that are left
abbrev pub invariant-loop-i : goal.invariant-loop-i
invariant-loop-i l =
    number_true l.definition (seen l.at) l.state (l.first + l.i) (drop l.i l.rules) ≡ number_true l.definition (seen l.at) l.state l.first l.rules
