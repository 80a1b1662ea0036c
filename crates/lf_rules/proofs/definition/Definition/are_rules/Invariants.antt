use Rattle.std.proofs.Common.{◌≡◌, take, true}
use Rattle.std.specs.List.{list_all}
use Rattle.lf_rules.specs.Forms.{is_rule_in}
use Rattle.lf_rules.proofs.definition.Definition.are_rules.Given as goal

-- those so far pass
abbrev pub invariant-loop-rule : goal.invariant-loop-rule
invariant-loop-rule l = list_all (is_rule_in l.self l.scope l.sends) (take l.rule-index l.rules) ≡ true
