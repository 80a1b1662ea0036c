use Rattle.std.specs.Prelude.{find}
use Rattle.lf_rule_machine.specs.declared.fact.Told.TheVariants as tolds
use Rattle.lf_naming.specs.Facts.{both, guard_facts, has_name}
use Rattle.lf_naming.proofs.FirstsLemmas.{not_here}
use Rattle.lf_naming.proofs.finding.guard_named.Goals as goal

pub guards-preserved : goal.guards-preserved
guards-preserved c =
    let d = c.args.definition.now in
    let p = has_name d c.args.word.now in
    not_here p (λ guard. both (tolds.Named guard)) c.guards.guard c.numbers-guard-end.result (find p (guard_facts d)) c.guards-test.true c.guards.invariant
    c.in_default.ensures
