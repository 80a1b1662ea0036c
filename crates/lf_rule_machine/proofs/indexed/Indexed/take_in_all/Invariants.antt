use Rattle.std.proofs.Common.{◌≡◌, take}
use Rattle.std.specs.Arc.{arc_value}
use Rattle.std.specs.List.{fold}
use Rattle.lf_rule_machine.specs.Machines.{hear_of}
use Rattle.lf_rule_machine.proofs.indexed.Indexed.take_in_all.Given as goal

-- what it comes to with the letters so far
abbrev pub invariant-loop-letter : goal.invariant-loop-letter
invariant-loop-letter l =
    l.turn ≡ fold (hear_of (arc_value l.self.rules) l.self.nodes l.self.given l.node l.t) l.initial.turn (take l.letter-index l.inbox)
