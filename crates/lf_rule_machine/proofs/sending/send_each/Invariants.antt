use Rattle.std.proofs.Common.{◌≡◌}
use Rattle.std.specs.List.{fold, range_with_len}
use Rattle.lf_rule_machine.specs.Moments.{seen}
use Rattle.lf_rule_machine.specs.Events.{send_one}
use Rattle.lf_rule_machine.proofs.sending.send_each.Given as goal

-- what it comes to with the nodes so far
abbrev pub invariant-loop-to : goal.invariant-loop-to
invariant-loop-to l = l.turn ≡ fold (send_one l.definition (seen l.at) l.set l.message) l.initial.turn (range_with_len 0 l.to)
