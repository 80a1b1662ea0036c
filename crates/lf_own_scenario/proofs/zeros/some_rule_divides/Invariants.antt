use Rattle.std.proofs.Common.{◌≡◌, take, false}
use Rattle.std.specs.List.{list_any}
use Rattle.lf_own_scenario.specs.Zeros.{rule_divides}
use Rattle.lf_own_scenario.proofs.zeros.some_rule_divides.Given as goal

abbrev pub invariant-rules : goal.invariant-rules
invariant-rules l = list_any (rule_divides l.given) (take l.rule-index l.rules) ≡ false
