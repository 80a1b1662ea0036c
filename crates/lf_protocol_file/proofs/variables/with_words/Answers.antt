use Rattle.std.proofs.Common.{◌∙◌, sym}
use Rattle.lf_protocol_file.proofs.WordsLemmas.{words-step}
use Rattle.lf_protocol_file.proofs.variables.with_words.Goals as goal

pub loop-i-preserved : goal.loop-i-preserved
loop-i-preserved c =
    sym (words-step c.args.of c.loop-i.i c.number_after.result c.args.words.now c.index-words-i.result c.as_str.result.now c.loop-i.draft c.in_ok-draft.draft
    c.loop-i-test.true c.index-words-i.is c.as_str.ensures c.number_after.ensures c.in_ok-draft.ensures) ∙ c.loop-i.invariant
