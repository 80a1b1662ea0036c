use Rattle.std.proofs.Common.{◌≡◌, ◌+◌, take}
use Rattle.lf_rules.specs.Forms.{rules_in}
use Rattle.lf_mutations.proofs.places.place_after.Given as goal

-- the rules of the chains so far, and those that are still to be passed
abbrev pub invariant-loop-i : goal.invariant-loop-i
invariant-loop-i l = rules_in (take l.i l.chains) + l.rule ≡ l.before
