use Rattle.std.proofs.Common.{◌≡◌, true, not, take}
use Rattle.std.specs.List.{list_all}
use Rattle.lf_rules.specs.declared.rule.Event.TheVariants as events
use Rattle.lf_rule_machine.specs.Events.{same_event}
use Rattle.rule_examples.proofs.single_runs.starts_with_zeros.Given as goal

-- the chains so far
abbrev pub invariant-loop-chain : goal.invariant-loop-chain
invariant-loop-chain l = list_all (λ chain. not (same_event chain.on events.Start)) (take l.chain-index l.chain-items) ≡ true
