use Rattle.std.proofs.Common.{◌≡◌, take}
use Rattle.std.specs.List.{fold}
use Rattle.lf_rule_machine.specs.Moments.{seen}
use Rattle.lf_rule_machine.specs.Events.{send}
use Rattle.lf_rule_machine.proofs.sending.send_all.Given as goal

-- what it comes to with the sends so far
abbrev pub invariant-loop-message : goal.invariant-loop-message
invariant-loop-message l = l.turn ≡ fold (send l.definition (seen l.at)) l.initial.turn (take l.message-index l.sends)
