use Rattle.std.proofs.Common.{◌≡◌, take, true}
use Rattle.std.specs.List.{list_all}
use Rattle.lf_rules.specs.Forms.{is_shown}
use Rattle.lf_rules.proofs.definition.Definition.are_shown.Given as goal

-- those so far pass
abbrev pub invariant-loop-variable : goal.invariant-loop-variable
invariant-loop-variable l = list_all (is_shown l.self) (take l.variable-index l.self.trace) ≡ true
