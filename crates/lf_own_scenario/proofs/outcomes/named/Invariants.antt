use Rattle.std.proofs.Common.{◌≡◌, drop, true}
use Rattle.lf_protocol_file.specs.Written.{are_named}
use Rattle.lf_own_scenario.specs.Outcomes.{named}
use Rattle.lf_own_scenario.proofs.outcomes.named.Given as goal

-- the one with the name is among the rest, if it is one of them
abbrev pub invariant-outcomes : goal.invariant-outcomes
invariant-outcomes l =
    (named l.name (drop l.outcome-index l.outcomes) ≡ named l.name l.outcomes)
    × (are_named l.file.definition (drop l.outcome-index l.outcomes) ≡ true)
