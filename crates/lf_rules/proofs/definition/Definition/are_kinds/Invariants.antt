use Rattle.std.proofs.Common.{◌≡◌, take, true}
use Rattle.std.specs.List.{list_all}
use Rattle.lf_rules.specs.Forms.{is_kind}
use Rattle.lf_rules.proofs.definition.Definition.are_kinds.Given as goal

-- those so far pass
abbrev pub invariant-loop-kind : goal.invariant-loop-kind
invariant-loop-kind l = list_all (is_kind l.self) (take l.kind-index l.kinds) ≡ true
