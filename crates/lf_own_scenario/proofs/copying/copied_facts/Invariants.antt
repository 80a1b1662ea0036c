use Rattle.std.proofs.Common.{◌≡◌, take}
use Rattle.lf_own_scenario.proofs.copying.copied_facts.Given as goal

-- the facts so far are copied
abbrev pub invariant-facts : goal.invariant-facts
invariant-facts l = l.copies.items ≡ take l.fact-index l.facts
