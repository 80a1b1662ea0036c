use Rattle.std.proofs.Common.{◌≡◌, take}
use Rattle.std.specs.List.{fold}
use Rattle.lf_rule_machine.specs.Moments.{seen}
use Rattle.lf_rule_machine.specs.Choices.{take_at}
use Rattle.lf_rule_machine.proofs.acting.go_through.Given as goal

-- what it comes to with the chains so far
abbrev pub invariant-loop-number : goal.invariant-loop-number
invariant-loop-number l = l.turn ≡ fold (take_at l.definition (seen l.at)) l.initial.turn (take l.number-index l.numbers)
