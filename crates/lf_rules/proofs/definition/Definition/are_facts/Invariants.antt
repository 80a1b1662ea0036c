use Rattle.std.proofs.Common.{◌≡◌, take, true}
use Rattle.std.specs.List.{list_all}
use Rattle.lf_rules.specs.Forms.{is_fact}
use Rattle.lf_rules.proofs.definition.Definition.are_facts.Given as goal

-- those so far pass
abbrev pub invariant-loop-guard : goal.invariant-loop-guard
invariant-loop-guard l = list_all (is_fact l.self) (take l.guard-index l.self.facts) ≡ true
