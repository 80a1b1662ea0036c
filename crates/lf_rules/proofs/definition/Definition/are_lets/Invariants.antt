use Rattle.std.proofs.Common.{◌≡◌, take, true}
use Rattle.std.specs.List.{list_all}
use Rattle.lf_rules.specs.Forms.{is_let}
use Rattle.lf_rules.proofs.definition.Definition.are_lets.Given as goal

-- those so far pass
abbrev pub invariant-loop-named : goal.invariant-loop-named
invariant-loop-named l = list_all (is_let l.self) (take l.named-index l.self.lets) ≡ true
