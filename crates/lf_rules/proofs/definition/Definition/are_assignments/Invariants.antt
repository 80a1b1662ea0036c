use Rattle.std.proofs.Common.{◌≡◌, take, true}
use Rattle.std.specs.List.{list_all}
use Rattle.lf_rules.specs.Forms.{is_assignment}
use Rattle.lf_rules.proofs.definition.Definition.are_assignments.Given as goal

-- those so far pass
abbrev pub invariant-loop-set : goal.invariant-loop-set
invariant-loop-set l = list_all (is_assignment l.self l.scope) (take l.set-index l.sets) ≡ true
