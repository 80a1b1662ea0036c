use Rattle.std.specs.Prelude.{find, slice_get}
use Rattle.lf_naming.specs.Facts.{has_name, own_words, word_facts}
use Rattle.lf_naming.proofs.FirstsLemmas.{found_here, not_here}
use Rattle.lf_naming.proofs.finding.word_named.Goals as goal

pub returns-in-Some : goal.returns-in-Some
returns-in-Some c =
    let d = c.args.definition.now in
    let p = has_name d c.args.word.now in
    found_here p (λ variable. own_words variable (slice_get d.variables variable)) c.variables.variable c.numbers-variable-end.result c.in-Some.fact
    (find p (word_facts d)) c.variables-test.true c.variables.invariant c.in-Some.ensures

pub variables-preserved : goal.variables-preserved
variables-preserved c =
    let d = c.args.definition.now in
    let p = has_name d c.args.word.now in
    not_here p (λ variable. own_words variable (slice_get d.variables variable)) c.variables.variable c.numbers-variable-end.result (find p (word_facts d))
    c.variables-test.true c.variables.invariant c.in_default.ensures
