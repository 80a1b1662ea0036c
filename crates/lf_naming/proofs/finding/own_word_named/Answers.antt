use Rattle.std.specs.Prelude.{find, slice_get}
use Rattle.lf_rule_machine.specs.declared.fact.Told.TheVariants as tolds
use Rattle.lf_naming.specs.Facts.{both, has_name, own_words}
use Rattle.lf_naming.proofs.FirstsLemmas.{not_here}
use Rattle.lf_naming.proofs.finding.own_word_named.Goals as goal

pub words-preserved : goal.words-preserved
words-preserved c =
    let d = c.args.definition.now in
    let v = c.args.variable in
    let p = has_name d c.args.word.now in
    not_here p (λ word. both (tolds.Word v word)) c.words.own c.numbers-own-end.result (find p (own_words v (slice_get d.variables v)))
    c.words-test.true c.words.invariant c.in_default.ensures
