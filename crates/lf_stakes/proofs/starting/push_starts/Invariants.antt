use Rattle.std.proofs.Common.{◌≡◌, ◌++◌, drop, map}
use Rattle.lf_stakes.specs.Starting.{is_start}
use Rattle.lf_stakes.proofs.starting.push_starts.Given as goal

-- those of the rules so far are there
abbrev pub invariant-loop-rule : goal.invariant-loop-rule
invariant-loop-rule l =
    l.starting.items ++ map (λ rule. is_start l.chain.on) (drop l._rule-index l._rule-items)
    ≡ l.initial.starting.items ++ map (λ rule. is_start l.chain.on) l.chain.rules
