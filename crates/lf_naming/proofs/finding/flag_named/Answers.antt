use Rattle.std.specs.Prelude.{find, slice_get}
use Rattle.lf_naming.specs.Facts.{flag_facts, has_name, own_flag}
use Rattle.lf_naming.proofs.FirstsLemmas.{not_here}
use Rattle.lf_naming.proofs.finding.flag_named.Goals as goal

pub variables-preserved : goal.variables-preserved
variables-preserved c =
    let d = c.args.definition.now in
    let p = has_name d c.args.word.now in
    not_here p (λ variable. own_flag variable (slice_get d.variables variable)) c.variables.variable c.numbers-variable-end.result (find p (flag_facts d))
    c.variables-test.true c.variables.invariant c.in_default.ensures
