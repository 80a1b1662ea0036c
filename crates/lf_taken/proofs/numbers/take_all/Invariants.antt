use Rattle.std.proofs.Common.{◌≡◌, ◌++◌, drop}
use Rattle.std.specs.List.{fold}
use Rattle.lf_rule_machine.specs.Moments.{seen}
use Rattle.lf_rule_machine.specs.Choices.{take_at}
use Rattle.lf_taken.specs.Numbers.{taken_through}
use Rattle.lf_taken.proofs.numbers.take_all.Given as goal

-- with what comes of the chains that are left it is what comes of all
abbrev pub invariant-loop-number : goal.invariant-loop-number
invariant-loop-number l =
    record {
      turn : fold (take_at l.definition (seen l.at)) l.turn (drop l.number-index l.numbers) ≡ fold (take_at l.definition (seen l.at)) l.initial.turn l.numbers;
      taken : l.taken.items ++ taken_through l.definition (seen l.at) l.turn (drop l.number-index l.numbers)
          ≡ l.initial.taken.items ++ taken_through l.definition (seen l.at) l.initial.turn l.numbers;
    }
