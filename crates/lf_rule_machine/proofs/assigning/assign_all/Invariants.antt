use Rattle.std.proofs.Common.{◌≡◌, take}
use Rattle.std.specs.List.{fold}
use Rattle.lf_rule_machine.specs.Moments.{seen}
use Rattle.lf_rule_machine.specs.Events.{assign}
use Rattle.lf_rule_machine.proofs.assigning.assign_all.Given as goal

-- the state after the assignments so far
abbrev pub invariant-loop-set : goal.invariant-loop-set
invariant-loop-set l = l.state ≡ fold (assign l.definition (seen l.at)) l.initial.state (take l.set-index l.sets)
