use Rattle.std.proofs.Common.{◌≡◌}
use Rattle.std.specs.List.{fold, range_with_len}
use Rattle.lf_rule_machine.specs.Moments.{seen}
use Rattle.lf_rule_machine.specs.Events.{put}
use Rattle.lf_rule_machine.proofs.sending.put_all.Given as goal

-- what it comes to with the nodes so far
abbrev pub invariant-loop-to : goal.invariant-loop-to
invariant-loop-to l = l.turn ≡ fold (put (seen l.at) l.set l.note) l.initial.turn (range_with_len 0 l.to)
