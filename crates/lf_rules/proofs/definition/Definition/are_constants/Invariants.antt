use Rattle.std.proofs.Common.{◌≡◌, take, true}
use Rattle.std.specs.List.{list_all}
use Rattle.lf_rules.specs.Forms.{is_constant}
use Rattle.lf_rules.proofs.definition.Definition.are_constants.Given as goal

-- those so far pass
abbrev pub invariant-loop-constant : goal.invariant-loop-constant
invariant-loop-constant l = list_all (is_constant l.self) (take l.constant-index l.self.given) ≡ true
