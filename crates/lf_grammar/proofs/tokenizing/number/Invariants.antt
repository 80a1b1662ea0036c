use Rattle.std.proofs.Common.{◌≡◌, ◌-◌, ◌≤◌, take}
use Rattle.lf_grammar.specs.Tokens.{value_behind}
use Rattle.lf_grammar.proofs.tokenizing.number.Given as goal

-- the value of the digits so far
abbrev pub invariant-loop-digit : goal.invariant-loop-digit
invariant-loop-digit l =
    record {
      value : l.value ≡ value_behind (l.first - 48) (take l.digit-index l.more);
      small : l.value ≤ 255;
    }
