use Rattle.std.proofs.Common.{◌≡◌, take, true}
use Rattle.std.specs.List.{list_all}
use Rattle.lf_rules.specs.Forms.{is_value}
use Rattle.lf_rules.proofs.definition.Definition.are_values.Given as goal

-- those so far pass
abbrev pub invariant-loop-value : goal.invariant-loop-value
invariant-loop-value l = list_all (is_value l.self l.sort) (take l.value-index l.values) ≡ true
