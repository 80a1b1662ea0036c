use Rattle.std.proofs.Common.{◌≡◌, ◌++◌, drop}
use Rattle.std.specs.List.{fold}
use Rattle.lf_protocols.specs.RuledTurns.{hear_by_rules}
use Rattle.lf_taken.specs.Turns.{taken_by_letters}
use Rattle.lf_taken.proofs.turns.Acting.push_letters.Given as goal

-- with what comes of the letters that are left it is what comes of all
abbrev pub invariant-loop-letter : goal.invariant-loop-letter
invariant-loop-letter l =
    let m = l.self.ruled.now in
    record {
      turn : fold (hear_by_rules m l.self.node l.self.t) l.turn (drop l.letter-index l.inbox)
          ≡ fold (hear_by_rules m l.self.node l.self.t) l.initial.turn l.inbox;
      taken : l.taken.items ++ taken_by_letters m l.self.node l.self.t l.turn (drop l.letter-index l.inbox)
          ≡ l.initial.taken.items ++ taken_by_letters m l.self.node l.self.t l.initial.turn l.inbox;
    }
