use Rattle.std.proofs.Common.{map, string_bytes, sym, subst, ◌∙◌}
use Rattle.reply_examples.specs.Floats.{ArePlain}
use Rattle.reply_examples.proofs.FloatLemmas.{listed_exact}
use Rattle.reply_examples.proofs.floats.is_exact.Goals as goal

pub returns-in-Listed : goal.returns-in-Listed
returns-in-Listed c are =
    listed_exact c.args.one.now c.in-Listed.words (sym c.words.ensures ∙ c.in-Listed.is)
    (subst (λ words. ArePlain (map string_bytes words)) c.as_slice.ensures.value (c.are_plain.ensures are))
