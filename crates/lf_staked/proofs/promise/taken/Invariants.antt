use Rattle.std.proofs.Common.{◌≡◌}
use Rattle.lf_own_scenario.specs.Outcomes.{named}
use Rattle.lf_staked.proofs.promise.taken.Given as goal

-- the one with the name is among the rest, if it is one of them
abbrev pub invariant-outcomes : goal.invariant-outcomes
invariant-outcomes l = named l.name l.outcome-iterator.rest.items ≡ named l.name l.initial.outcome-iterator.rest.items
