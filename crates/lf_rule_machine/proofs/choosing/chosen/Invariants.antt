use Rattle.std.proofs.Common.{◌≡◌, ◌++◌, drop}
use Rattle.lf_rule_machine.specs.Events.{is_passed}
use Rattle.lf_rule_machine.specs.Choices.{numbers_of, chosen}
use Rattle.lf_rule_machine.proofs.choosing.chosen.Given as goal

-- the chains that are left to be seen give the numbers that follow
abbrev pub invariant-loop-i : goal.invariant-loop-i
invariant-loop-i l =
    l.numbers.items ++ numbers_of (is_passed l.nodes l.me l.given l.event) l.i (drop l.i l.definition.chains)
    ≡ chosen l.definition l.nodes l.me l.given l.event
