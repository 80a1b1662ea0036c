use Rattle.std.proofs.Common.{◌≡◌}
use Rattle.std.specs.Prelude.{find}
use Rattle.lf_rule_machine.specs.declared.fact.Told.TheVariants as tolds
use Rattle.lf_naming.specs.Facts.{both, guard_facts, has_name}
use Rattle.lf_naming.proofs.FirstsLemmas.{first_from}
use Rattle.lf_naming.proofs.finding.guard_named.Given as goal

-- it is none of the guards so far
abbrev pub invariant-guards : goal.invariant-guards
invariant-guards l =
    first_from (has_name l.definition l.word) (λ guard. both (tolds.Named guard)) l.guard l.guard-end
    ≡ find (has_name l.definition l.word) (guard_facts l.definition)
