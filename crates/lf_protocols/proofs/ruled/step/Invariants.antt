use Rattle.std.proofs.Common.{◌≡◌, take}
use Rattle.std.specs.List.{fold}
use Rattle.lf_protocols.specs.RuledTurns.{hear_by_rules}
use Rattle.lf_protocols.proofs.ruled.step.Given as goal

-- what it comes to with the letters so far
abbrev pub invariant-loop-letter : goal.invariant-loop-letter
invariant-loop-letter l = l.turn ≡ fold (hear_by_rules l.ruled l.node l.t) l.initial.turn (take l.letter-index l.inbox)
