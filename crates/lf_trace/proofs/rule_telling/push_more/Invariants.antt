use Rattle.std.proofs.Common.{◌≡◌, ◌++◌, string_bytes, drop}
use Rattle.lf_trace.specs.RuleTraces.{more_numbers}
use Rattle.lf_trace.proofs.rule_telling.push_more.Given as goal

-- with those that are left it is all
abbrev pub invariant-loop-number : goal.invariant-loop-number
invariant-loop-number l =
    string_bytes l.text ++ more_numbers (drop l.number-index l.numbers) ≡ string_bytes l.initial.text ++ more_numbers l.numbers
